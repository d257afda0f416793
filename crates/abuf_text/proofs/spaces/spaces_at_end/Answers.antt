use Rattle.std.proofs.Common.{◌≡◌, ◌∙◌, sym, ap, length, reverse, unwrap_or, position, arith}
use Rattle.std.specs.List.{position_or_len}
use Rattle.std.proofs.lemmas.List.{length-reverse}
use Rattle.abuf_text.specs.Rest.{is_text}
use Rattle.abuf_text.proofs.Places.{position_or_len-le-length, unwrap_or-position}
use Rattle.abuf_text.proofs.spaces.spaces_at_end.Goals as goal

pub returns : goal.returns
returns c =
    let bytes = c.args.bytes.now in
    let is : c.or_end.result ≡ position_or_len is_text (reverse bytes) =
    c.or_end.ensures ∙ ap (λ place. unwrap_or place (length bytes)) c.last_text.ensures ∙ ap (λ n. unwrap_or (position is_text (reverse bytes)) n) (sym (length-reverse bytes)) ∙ unwrap_or-position is_text (reverse bytes) in
    record { count = is; within = omega (arith, is, length-reverse bytes, position_or_len-le-length is_text (reverse bytes)) }
