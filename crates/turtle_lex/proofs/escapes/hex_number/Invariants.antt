use Rattle.std.proofs.Common.{◌≡◌, ◌<◌, ◌^◌, drop}
use Rattle.std.specs.List.{list_all}
use Rattle.std.specs.Char.{is_ascii_hexdigit}
use Rattle.turtle_lex.specs.Pattern.{hex_value}
use Rattle.turtle_lex.proofs.escapes.hex_number.Given as goal

-- what is left goes on from the number so far
abbrev pub invariant-loop-digit : goal.invariant-loop-digit
invariant-loop-digit l = record {
  value : hex_value l.number (drop l.digit-index l.digits) ≡ hex_value 0 l.digits;
  hex : list_all is_ascii_hexdigit (drop l.digit-index l.digits) ≡ list_all is_ascii_hexdigit l.digits;
  fits : l.number < 16 ^ l.digit-index;
}
