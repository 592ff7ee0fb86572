use Rattle.std.proofs.Common.{◌≡◌, [], ◌∷◌, ◌++◌, length, ap, ◌∙◌, arith}
use Rattle.std.proofs.lemmas.List.{append_assoc, length-append}
use Rattle.notation.proofs.Spelling.{pasted, same_further}
use Rattle.protocol.proofs.writer.write_text.Goals as goal

pub returns : goal.returns
returns c =
    let line = c.args.line.now in
    let text = c.args.text.now in
    let buffer = c.args.buffer.now in
    let one = c.put_bytes-place.ensures in
    let two = c.put_bytes-place-2.ensures in
    let three = c.put_bytes.ensures in
    let end = c.put_bytes.result in
    let long : end ≡ length (line ++ (text ++ (10 ∷ []))) = omega (arith, one.place, two.place, three.place, length-append line (text ++ (10 ∷ [])), length-append text (10 ∷ [])) in (
      long,
      omega (arith, one.place, two.place, three.place, c.if-buffer-needed.false),
      pasted buffer c.put_bytes.new.line (line ++ (text ++ (10 ∷ []))) end
          (three.put ∙ ap (λ xs. xs ++ (10 ∷ [])) (two.put ∙ ap (λ xs. xs ++ text) one.put) ∙ append_assoc line text (10 ∷ []))
          (three.rest
          ∙ same_further c.put_bytes-place-2.result end c.put_bytes-place-2.new.line c.put_bytes-place.new.line (omega (arith, three.place)) two.rest
          ∙ same_further c.put_bytes-place.result end c.put_bytes-place.new.line buffer (omega (arith, two.place, three.place)) one.rest),
    )
