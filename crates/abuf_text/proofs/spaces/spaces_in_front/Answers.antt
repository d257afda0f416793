use Rattle.std.proofs.Common.{◌≡◌, ◌∙◌, ap, length, unwrap_or, arith}
use Rattle.std.specs.List.{position_or_len}
use Rattle.abuf_text.specs.Rest.{is_text}
use Rattle.abuf_text.proofs.Places.{position_or_len-le-length, unwrap_or-position}
use Rattle.abuf_text.proofs.spaces.spaces_in_front.Goals as goal

pub returns : goal.returns
returns c =
    let bytes = c.args.bytes.now in
    let is : c.or_end.result ≡ position_or_len is_text bytes = c.or_end.ensures ∙ ap (λ place. unwrap_or place (length bytes)) c.first_text.ensures ∙ unwrap_or-position is_text bytes in
    record { count = is; within = omega (arith, is, position_or_len-le-length is_text bytes) }
