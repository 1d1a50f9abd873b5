-- "Transmission": what each request is answered, given the bytes of the device.
use Rattle.std.specs.Prelude.{ℕ, ◌+◌, Bool, nat_lt, nat_le, ◌==◌, ◌&&◌, ◌||◌, if◌then◌else◌, List, [], ◌∷◌, ◌++◌, length, slice_range}
use Rattle.std.specs.declared.option.Option.{Option}
use Rattle.std.specs.declared.option.Option.TheVariants.{None, Some}
use Rattle.nbd_text.specs.Fields.{u16_at, u32_at, u64_at, u32_bytes, u64_bytes}
use Rattle.nbd_text.specs.declared.heads.Request.{Request}
use Rattle.nbd_text.specs.declared.numbers.TheConstants.{MOST_BLOCK, REQUEST_MAGIC, SIMPLE_REPLY_MAGIC, CMD_READ, CMD_WRITE, CMD_TRIM, CMD_WRITE_ZEROES, EPERM, EIO, EINVAL}

-- "Request message": the magic number, command flags, type, handle, offset and length
unfoldable pub request_of : List ℕ → Option Request
request_of bytes =
    if u32_at 0 bytes == REQUEST_MAGIC
    then Some (record { flags = u16_at 4 bytes; command = u16_at 6 bytes; handle = u64_at 8 bytes; offset = u64_at 16 bytes; length = u32_at 24 bytes })
    else None

-- "Simple reply message"
unfoldable pub simple_reply : ℕ → ℕ → List ℕ
simple_reply error handle = u32_bytes SIMPLE_REPLY_MAGIC ++ u32_bytes error ++ u64_bytes handle

-- "Error values": the error of a request to a device of `size` bytes, 0 for none, before the device is read. What would change the
-- device is not permitted, whatever its flags; else no command flag is offered, and no command but a read of bytes that lie within the
-- device, no more of them than the greatest block
unfoldable pub error_of : ℕ → Request → ℕ
error_of size request =
    if (request.command == CMD_WRITE) || (request.command == CMD_TRIM) || (request.command == CMD_WRITE_ZEROES) then EPERM
    else if (request.command == CMD_READ) && (request.flags == 0) && nat_le request.length MOST_BLOCK && nat_le (request.offset + request.length) size then 0
    else EINVAL

-- the device is read for the request: for one without an error, that asks for some bytes
unfoldable pub is_read : ℕ → Request → Bool
is_read size request = (error_of size request == 0) && nat_lt 0 request.length

-- a reading of the device: the request that it is read for, and whether it failed
pub record Reading : Type 0 where
  pub request : Request
  pub failed : Bool

-- the readings for a request: one, or none
abbrev pub readings_of : ℕ → Bool → Request → List Reading
readings_of size failed request = if is_read size request then record { request = request; failed = failed } ∷ [] else []

-- the reply to a request, of a device that holds `content`: the data of a read, or EIO where the device failed
abbrev pub reply_of : List ℕ → Bool → Request → List ℕ
reply_of content failed request =
    if is_read (length content) request
    then (if failed then simple_reply EIO request.handle else simple_reply 0 request.handle ++ slice_range content request.offset (request.offset + request.length))
    else simple_reply (error_of (length content) request) request.handle
