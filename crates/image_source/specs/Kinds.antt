-- Which files may be images.
use Rattle.std.specs.Prelude.{◌≡◌, ◌⊎◌}
use Rattle.std.specs.Fs.{IsFile, file_type, metadata_len}
use Rattle.std.specs.declared.fs.attrs.Metadata.{Metadata}
use Rattle.image_source.specs.declared.file_images.ImageKind.{ImageKind}
use Rattle.image_source.specs.declared.file_images.ImageKind.TheVariants.{Regular, Device}

-- a block device: its type is `S_IFBLK`
abbrev pub IsBlockDevice : Metadata → Type 0
IsBlockDevice found = (file_type found).bits ≡ 0o060000

-- a regular file or a block device
abbrev pub IsImageFile : Metadata → Type 0
IsImageFile found = IsFile (file_type found) ⊎ IsBlockDevice found

-- of this kind
abbrev pub IsKind : Metadata → ImageKind → Type 0
IsKind found (Regular bytes) = IsFile (file_type found) × (bytes ≡ metadata_len found)
IsKind found Device = IsBlockDevice found
