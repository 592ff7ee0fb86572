-- A step on one pool of a forest, as it moves the holders of the forest's cells. Assumes nothing.
use Rattle.std.proofs.Common.{◌≡◌, ℕ, ◌+◌, ◌<◌, ◌≤◌, ltb-true, List, ◌∷◌, [], Some, None, Option, ap, ◌∙◌, subst}
use Rattle.pool.specs.Cells.{Puts, Retains, Releases}
use Rattle.pool.specs.Counts.{Ledger, entry, mentions, named, slot}
use Rattle.pool.specs.declared.cell.Slot.{Slot}
use Rattle.pool.specs.declared.counted.Counted.{Counted}
use Rattle.forest.specs.States.{State, ledger, spare, Covers, Moved, PutIn, given_up}
use Rattle.forest.specs.Pools.{IsPool}
use Rattle.forest.proofs.Moving.{free_holders, put_moves, retain_moves, release_moves}

module _ {C : Type 0} {p : ℕ} {slots : C → List Slot} {cells : State → List (Counted C)} {with_cells : State → List (Counted C) → State} (pool : IsPool p slots cells with_cells) (blank : C) (st : State) where
  one : p < 3
  one = ltb-true p 3 pool.is_one

  module _ (covers : Covers st) (after : List (Counted C)) where
    -- in the ledger, and so in the state
    in_state : (l : Ledger) (out into : Slot → ℕ) → l ≡ ledger (with_cells st after) → ((s : Slot) → mentions l s ≤ (entry l s).count) × ((s : Slot) → free_holders l s + out s ≡ spare st s + into s) → Moved st (with_cells st after) out into
    in_state l out into is moved = subst (λ m. ((s : Slot) → mentions m s ≤ (entry m s).count) × ((s : Slot) → free_holders m s + out s ≡ spare st s + into s)) is moved

    pub put_moves_in : (c : C) (r : Option ℕ) → ((s : Slot) → named (slots c) s ≤ spare st s) → Puts blank (cells st) c r after → PutIn slots p st (with_cells st after) c r
    put_moves_in c None enough h = ap (with_cells st) h.1 ∙ pool.same st
    put_moves_in c (Some n) enough h = in_state _ _ _ (pool.ledger_is st after) (put_moves slots blank (cells st) after (ledger st) p one (pool.page_is st) covers c n h enough)

    pub retain_moves_in : (n : ℕ) → Retains blank (cells st) n after → Moved st (with_cells st after) (λ _. 0) (named (slot p n ∷ []))
    retain_moves_in n h = in_state _ _ _ (pool.ledger_is st after) (retain_moves slots blank (cells st) after (ledger st) p one (pool.page_is st) covers n h)

    pub release_moves_in : (n : ℕ) (r : Option C) → Releases blank (cells st) n r after → 0 < spare st (slot p n) → Moved st (with_cells st after) (named (slot p n ∷ [])) (named (given_up slots r))
    release_moves_in n r h some = in_state _ _ _ (pool.ledger_is st after) (release_moves slots blank (cells st) (ledger st) p one (pool.page_is st) after n r h covers some)
