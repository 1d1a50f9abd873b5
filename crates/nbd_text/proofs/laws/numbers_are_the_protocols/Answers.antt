use Rattle.std.proofs.Common.{refl}
use Rattle.nbd_text.proofs.laws.numbers_are_the_protocols.Goals as goal

pub returns : goal.returns
returns c = record {
  nbdmagic_is = refl;
  ihaveopt_is = refl;
  handshake_flags_is = refl;
  client_flags_is = refl;
  flags_head_is = refl;
  option_head_is = refl;
  opt_export_name_is = refl;
  opt_abort_is = refl;
  opt_list_is = refl;
  opt_info_is = refl;
  opt_go_is = refl;
  option_most_is = refl;
  option_reply_magic_is = refl;
  rep_ack_is = refl;
  rep_server_is = refl;
  rep_info_is = refl;
  rep_err_unsup_is = refl;
  rep_err_invalid_is = refl;
  rep_err_unknown_is = refl;
  rep_err_too_big_is = refl;
  info_export_is = refl;
  info_block_size_is = refl;
  export_zeros_is = refl;
  least_block_is = refl;
  best_block_is = refl;
  most_block_is = refl;
  transmission_flags_is = refl;
  request_head_is = refl;
  reply_head_is = refl;
  request_magic_is = refl;
  simple_reply_magic_is = refl;
  cmd_read_is = refl;
  cmd_write_is = refl;
  cmd_disc_is = refl;
  cmd_trim_is = refl;
  cmd_write_zeroes_is = refl;
  eperm_is = refl;
  eio_is = refl;
  einval_is = refl;
}
