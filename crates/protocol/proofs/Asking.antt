-- The arguments of a command, told one after the other. Assumes nothing.
use Rattle.std.proofs.Common.{◌≡◌, ℕ, ◌<◌, List, [], ◌∷◌, ◌++◌, drop, None, decimal, sym, ap, ◌∙◌, arith}
use Rattle.notation.specs.Numbers.{number_bound, spaced}
use Rattle.protocol.specs.Commands.{load, splice, fork, undo, release, print, same, Small, Steps, arguments, bracketed}
use Rattle.protocol.specs.Requests.{Asks, Written}
use Rattle.protocol.specs.Letters.{letter_byte}
use Rattle.protocol.specs.declared.command.Letter.{Letter}
use Rattle.protocol.specs.declared.command.Letter.TheVariants as L
use Rattle.protocol.proofs.Pathways.{spaced_unique, bracketed_unique}

-- two handles, of which the first is there
pub not_two : (args rest : List ℕ) (v : ℕ) → v < number_bound → args ≡ spaced v rest → ((w : ℕ) → w < number_bound → rest ≡ decimal w → ⊥) → (a b : ℕ) → a < number_bound → b < number_bound → args ≡ spaced a (decimal b) → ⊥
not_two args rest v small e none a b sa sb h = none b sb (spaced_unique v a rest (decimal b) small sa (sym e ∙ h)).1

-- a line of another form than a letter with its arguments is no command
pub no_letter : (line : List ℕ) → ((l : Letter) (args : List ℕ) → line ≡ 40 ∷ letter_byte l ∷ 32 ∷ (args ++ (41 ∷ [])) → ⊥) → Written line None
no_letter line none (load h t) s e = none L.Load (arguments (load h t)) (sym e)
no_letter line none (splice h p k n t) s e = none L.Splice (arguments (splice h p k n t)) (sym e)
no_letter line none (fork a b) s e = none L.Fork (arguments (fork a b)) (sym e)
no_letter line none (undo h) s e = none L.Undo (arguments (undo h)) (sym e)
no_letter line none (release h) s e = none L.Release (arguments (release h)) (sym e)
no_letter line none (print h) s e = none L.Print (arguments (print h)) (sym e)
no_letter line none (same a b) s e = none L.Same (arguments (same a b)) (sym e)

-- only a splice has the letter S
only_splice : (args : List ℕ) → ((h : ℕ) (p : List ℕ) (k n : ℕ) (t : List ℕ) → Small (splice h p k n t) → args ≡ arguments (splice h p k n t) → ⊥) → Asks 83 args None
only_splice args none (load h t) s l e = absurd (omega (arith, l))
only_splice args none (splice h p k n t) s l e = none h p k n t s (sym e)
only_splice args none (fork a b) s l e = absurd (omega (arith, l))
only_splice args none (undo h) s l e = absurd (omega (arith, l))
only_splice args none (release h) s l e = absurd (omega (arith, l))
only_splice args none (print h) s l e = absurd (omega (arith, l))
only_splice args none (same a b) s l e = absurd (omega (arith, l))

-- the parts of a splice, one after the other
module _ (args : List ℕ) (h : ℕ) (r : List ℕ) (sh : h < number_bound) (is : args ≡ spaced h r) where
  after_handle : (h' : ℕ) (p : List ℕ) (k n : ℕ) (t : List ℕ) → Small (splice h' p k n t) → args ≡ arguments (splice h' p k n t) → r ≡ bracketed p (32 ∷ spaced k (spaced n t))
  after_handle h' p k n t s e = (spaced_unique h h' r (bracketed p (32 ∷ spaced k (spaced n t))) sh s.0 (sym is ∙ e)).1

  pub no_path : ((p rest : List ℕ) → Steps p → r ≡ bracketed p rest → ⊥) → Asks 83 args None
  no_path none = only_splice args (λ h' p k n t s e. none p (32 ∷ spaced k (spaced n t)) s.1 (after_handle h' p k n t s e))

  module _ (q : List ℕ) (r₁ : List ℕ) (sq : Steps q) (is₁ : r ≡ bracketed q r₁) where
    after_path : (h' : ℕ) (p : List ℕ) (k n : ℕ) (t : List ℕ) → Small (splice h' p k n t) → args ≡ arguments (splice h' p k n t) → r₁ ≡ 32 ∷ spaced k (spaced n t)
    after_path h' p k n t s e = (bracketed_unique q p r₁ (32 ∷ spaced k (spaced n t)) sq s.1 (sym is₁ ∙ after_handle h' p k n t s e)).1

    pub no_space : ((rest : List ℕ) → r₁ ≡ 32 ∷ rest → ⊥) → Asks 83 args None
    no_space none = only_splice args (λ h' p k n t s e. none (spaced k (spaced n t)) (after_path h' p k n t s e))

    module _ (r₂ : List ℕ) (is₂ : r₁ ≡ 32 ∷ r₂) where
      after_space : (h' : ℕ) (p : List ℕ) (k n : ℕ) (t : List ℕ) → Small (splice h' p k n t) → args ≡ arguments (splice h' p k n t) → r₂ ≡ spaced k (spaced n t)
      after_space h' p k n t s e = ap (drop 1) (sym is₂ ∙ after_path h' p k n t s e)

      pub no_first : ((v : ℕ) (rest : List ℕ) → v < number_bound → r₂ ≡ spaced v rest → ⊥) → Asks 83 args None
      no_first none = only_splice args (λ h' p k n t s e. none k (spaced n t) s.2 (after_space h' p k n t s e))

      pub no_removed : (k₀ : ℕ) (r₃ : List ℕ) → k₀ < number_bound → r₂ ≡ spaced k₀ r₃ → ((v : ℕ) (rest : List ℕ) → v < number_bound → r₃ ≡ spaced v rest → ⊥) → Asks 83 args None
      no_removed k₀ r₃ sk is₃ none =
          only_splice args (λ h' p k n t s e. none n t s.3 (spaced_unique k₀ k r₃ (spaced n t) sk s.2 (sym is₃ ∙ after_space h' p k n t s e)).1)
