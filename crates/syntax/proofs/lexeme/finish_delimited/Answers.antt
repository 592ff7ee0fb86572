use Rattle.std.proofs.Common.{◌≡◌, ◌+◌, ◌<◌, ◌≤◌, length, get_or, drop, sym, ap, ◌∙◌, arith}
use Rattle.std.proofs.lemmas.Grind.{common_steps}
use Rattle.syntax.specs.Classes.{class}
use Rattle.syntax.specs.Lexemes.{run, closing}
use Rattle.syntax.proofs.Lexing.{delimited_more, delimited_all}
use Rattle.syntax.proofs.lexeme.finish_delimited.Goals as goal

pub returns-in_default : goal.returns-in_default
returns-in_default c =
    let is_run : c.run_len-len.result ≡ run c.args.kind (drop (c.args.at + 1) c.args.text.now) = grind (arith, common_steps) in
    let past : length c.args.text.now ≤ c.args.at + (1 + c.run_len-len.result) = grind (arith, common_steps) in
    sym (delimited_all c.args.kind c.args.at c.run_len-len.result c.args.text.now is_run past)

pub returns : goal.returns
returns c =
    let is_run : c.run_len-len.result ≡ run c.args.kind (drop (c.args.at + 1) c.args.text.now) = grind (arith, common_steps) in
    let within : c.args.at + (1 + c.run_len-len.result) < length c.args.text.now = grind (arith, common_steps) in
    let there : c.in-Some.stop.now ≡ get_or c.args.text.now (c.args.at + (1 + c.run_len-len.result)) 0 = grind (arith, common_steps) in
    c.close.ensures
    ∙ ap (λ d. closing d c.args.kind c.args.at (1 + c.run_len-len.result)) (c.class_of.ensures ∙ ap class there)
    ∙ sym (delimited_more c.args.kind c.args.at c.run_len-len.result c.args.text.now is_run within)
