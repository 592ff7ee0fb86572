use Rattle.std.proofs.Common.{◌≡◌, ℕ, List, drop, Ok, Some, Option, Result, sym, subst, arith}
use Rattle.std.proofs.lemmas.Grind.{common_steps}
use Rattle.syntax.specs.Lexemes.{lexeme_at, Found}
use Rattle.syntax.specs.Layers.{TokenFault}
use Rattle.syntax.specs.declared.lexeme.Lexeme.{Lexeme}
use Rattle.syntax.proofs.Longest.{found}
use Rattle.syntax.proofs.lexeme.lexeme_at.Goals as goal

-- a result that is the lexeme at the place is the longest
longest : (p : ℕ) (bs : List ℕ) (r : Result (Option Lexeme) TokenFault) → r ≡ lexeme_at p bs → Found p r bs
longest p bs r e = subst (λ x. Found p x bs) (sym e) (found p bs)

pub returns-in_err-lexeme-clause-longest : goal.returns-in_err-lexeme-clause-longest
returns-in_err-lexeme-clause-longest c = longest c.args.at (drop c.args.at c.args.text.now) c.from_residual.result (grind (arith, common_steps))

pub returns-clause-longest : goal.returns-clause-longest
returns-clause-longest c = longest c.args.at (drop c.args.at c.args.text.now) (Ok (Some c.in_ok-lexeme.lexeme)) (grind (arith, common_steps))
