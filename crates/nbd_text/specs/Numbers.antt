-- The numbers of the protocol, as its specification and the pages of this repository write them.
use Rattle.std.specs.Prelude.{◌≡◌}
use Rattle.nbd_text.specs.declared.numbers.TheConstants.{NBDMAGIC, IHAVEOPT, HANDSHAKE_FLAGS, CLIENT_FLAGS, FLAGS_HEAD, OPTION_HEAD, OPT_EXPORT_NAME, OPT_ABORT, OPT_LIST, OPT_INFO, OPT_GO, OPTION_MOST, OPTION_REPLY_MAGIC, REP_ACK, REP_SERVER, REP_INFO, REP_ERR_UNSUP, REP_ERR_INVALID, REP_ERR_UNKNOWN, REP_ERR_TOO_BIG, INFO_EXPORT, INFO_BLOCK_SIZE, EXPORT_ZEROS, LEAST_BLOCK, BEST_BLOCK, MOST_BLOCK, TRANSMISSION_FLAGS, REQUEST_HEAD, REPLY_HEAD, REQUEST_MAGIC, SIMPLE_REPLY_MAGIC, CMD_READ, CMD_WRITE, CMD_DISC, CMD_TRIM, CMD_WRITE_ZEROES, EPERM, EIO, EINVAL}

-- "Fixed newstyle negotiation", "Option haggling", "Transmission", "Error values"; and what this server offers
pub record AreTheProtocols : Type 0 where
  pub nbdmagic_is : NBDMAGIC ≡ 0x4e42444d41474943
  pub ihaveopt_is : IHAVEOPT ≡ 0x49484156454f5054
  pub handshake_flags_is : HANDSHAKE_FLAGS ≡ 3
  pub client_flags_is : CLIENT_FLAGS ≡ 4
  pub flags_head_is : FLAGS_HEAD ≡ 4
  pub option_head_is : OPTION_HEAD ≡ 16
  pub opt_export_name_is : OPT_EXPORT_NAME ≡ 1
  pub opt_abort_is : OPT_ABORT ≡ 2
  pub opt_list_is : OPT_LIST ≡ 3
  pub opt_info_is : OPT_INFO ≡ 6
  pub opt_go_is : OPT_GO ≡ 7
  pub option_most_is : OPTION_MOST ≡ 65536
  pub option_reply_magic_is : OPTION_REPLY_MAGIC ≡ 0x0003e889045565a9
  pub rep_ack_is : REP_ACK ≡ 1
  pub rep_server_is : REP_SERVER ≡ 2
  pub rep_info_is : REP_INFO ≡ 3
  pub rep_err_unsup_is : REP_ERR_UNSUP ≡ 0x80000001
  pub rep_err_invalid_is : REP_ERR_INVALID ≡ 0x80000003
  pub rep_err_unknown_is : REP_ERR_UNKNOWN ≡ 0x80000006
  pub rep_err_too_big_is : REP_ERR_TOO_BIG ≡ 0x80000009
  pub info_export_is : INFO_EXPORT ≡ 0
  pub info_block_size_is : INFO_BLOCK_SIZE ≡ 3
  pub export_zeros_is : EXPORT_ZEROS ≡ 124
  pub least_block_is : LEAST_BLOCK ≡ 1
  pub best_block_is : BEST_BLOCK ≡ 4096
  pub most_block_is : MOST_BLOCK ≡ 33554432
  pub transmission_flags_is : TRANSMISSION_FLAGS ≡ 259
  pub request_head_is : REQUEST_HEAD ≡ 28
  pub reply_head_is : REPLY_HEAD ≡ 16
  pub request_magic_is : REQUEST_MAGIC ≡ 0x25609513
  pub simple_reply_magic_is : SIMPLE_REPLY_MAGIC ≡ 0x67446698
  pub cmd_read_is : CMD_READ ≡ 0
  pub cmd_write_is : CMD_WRITE ≡ 1
  pub cmd_disc_is : CMD_DISC ≡ 2
  pub cmd_trim_is : CMD_TRIM ≡ 4
  pub cmd_write_zeroes_is : CMD_WRITE_ZEROES ≡ 6
  pub eperm_is : EPERM ≡ 1
  pub eio_is : EIO ≡ 5
  pub einval_is : EINVAL ≡ 22
