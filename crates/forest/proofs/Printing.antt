-- A chain that is printed link by link. Assumes nothing.
use Rattle.std.proofs.Common.{◌≡◌, ℕ, ◌+◌, ◌<◌, ◌≤◌, Bool, true, false, List, [], ◌∷◌, ◌++◌, length, take, drop, is_some, Some, None, Option, unwrap_or, sym, refl, ap, ◌∙◌, subst, arith}
use Rattle.std.proofs.lemmas.Bool.{true≢false}
use Rattle.std.proofs.lemmas.List.{append_assoc, append-nil, length-append}
use Rattle.syntax.specs.declared.kind.Kind.{Kind}
use Rattle.tree.specs.Trees.{Tree, nil, token, form, printed, width}
use Rattle.notation.proofs.Spelling.{same_further}
use Rattle.std.specs.Bool.{then_some}
use Rattle.pool.specs.Cells.{live, contents}
use Rattle.pool.specs.declared.counted.Counted.{Counted}
use Rattle.forest.specs.declared.cells.Head.TheVariants as H
use Rattle.forest.specs.States.{State}
use Rattle.forest.specs.Unfolding.{link_at, token_at, Spells, IsToken, IsForm, Unfolds, chain_width}
use Rattle.forest.specs.Printing.{Room, Prints}
use Rattle.forest.proofs.Framing.{one_tree}

-- a piece was put at a place
abbrev pub Put : ℕ → List ℕ → ℕ → List ℕ → List ℕ → Type 0
Put p b q c x = (q ≡ p + length x) × (take q c ≡ take p b ++ x) × (drop q c ≡ drop q b) × (length c ≡ length b)

pub put_put : (p : ℕ) (b : List ℕ) (q : ℕ) (c : List ℕ) (r : ℕ) (d x y : List ℕ) → Put p b q c x → Put q c r d y → Put p b r d (x ++ y)
put_put p b q c r d x y one two = (
  omega (arith, one.0, two.0, length-append x y),
  two.1 ∙ ap (λ xs. xs ++ y) one.1 ∙ append_assoc (take p b) x y,
  two.2 ∙ same_further q r c b (omega (arith, two.0)) one.2,
  two.3 ∙ one.3,
)

pub record Printing (st : State) (first next : Option ℕ) (at place : ℕ) (before now : List ℕ) : Type 0 where
  pub whole : Tree
  pub rest : Tree
  pub of_first : Unfolds st first whole
  pub of_next : Unfolds st next rest
  pub done : List ℕ
  pub split : printed whole ≡ done ++ printed rest
  pub put : Put at before place now done
  pub room : at + width whole ≤ length before

pub starts : (st : State) (first : Option ℕ) (at : ℕ) (buffer : List ℕ) → Room st first at buffer → Printing st first first at at buffer buffer
starts st first at buffer room =
    record { whole = room.0; rest = room.0; of_first = room.1; of_next = room.1; done = []; split = refl; put = (omega arith, sym (append-nil (take at buffer)), refl, refl); room = room.2 }

pub piece_put : (st : State) (first next next' : Option ℕ) (at place place' : ℕ) (before now now' x : List ℕ) (rest' : Tree) (p : Printing st first next at place before now) → Put place now place' now' x → Unfolds st next' rest' → printed p.rest ≡ x ++ printed rest' → Printing st first next' at place' before now'
piece_put st first next next' at place place' before now now' x rest' p put unfolds split =
    record {
      whole = p.whole;
      rest = rest';
      of_first = p.of_first;
      of_next = unfolds;
      done = p.done ++ x;
      split = p.split ∙ ap (λ bs. p.done ++ bs) split ∙ sym (append_assoc p.done x (printed rest'));
      put = put_put at before place now place' now' p.done x p.put put;
      room = p.room;
    }

pub ends : (st : State) (first : Option ℕ) (at place : ℕ) (before now : List ℕ) → Printing st first None at place before now → Prints st first at before place now
ends st first at place before now p t unfolds =
    let none : printed p.rest ≡ [] = nothing p.rest p.of_next in
    let all : p.done ≡ printed t = sym (append-nil p.done) ∙ ap (λ bs. p.done ++ bs) (sym none) ∙ sym p.split ∙ ap printed (one_tree st p.whole t first p.of_first unfolds) in
    subst (Put at before place now) all p.put
  where
    nothing : (u : Tree) → Unfolds st None u → printed u ≡ []
    nothing nil h = refl
    nothing (token k bs rest) h = absurd h
    nothing (form inner rest) h = absurd h

-- a chain's width is what its first link says
pub width_told : (st : State) (first : Option ℕ) (t : Tree) → Unfolds st first t → chain_width st first ≡ width t
width_told st None nil h = refl
width_told st (Some n) nil h = absurd h
width_told st None (token k bs rest) h = absurd h
width_told st (Some n) (token k bs rest) h = h.1
width_told st None (form inner rest) h = absurd h
width_told st (Some n) (form inner rest) h = h.1

-- the item at a link, by its head
pub record TokenThere (st : State) (n m : ℕ) (u : Tree) : Type 0 where
  pub kind : Kind
  pub bytes : List ℕ
  pub behind : Tree
  pub lives : live (token_at st m) ≡ true
  pub spells : Spells (token_at st m).cell kind bytes
  pub of_tail : Unfolds st (link_at st n).cell.tail behind
  pub prints : printed u ≡ bytes ++ printed behind

pub record FormThere (st : State) (n : ℕ) (inside : Option ℕ) (u : Tree) : Type 0 where
  pub inner : Tree
  pub behind : Tree
  pub of_inner : Unfolds st inside inner
  pub of_tail : Unfolds st (link_at st n).cell.tail behind
  pub prints : printed u ≡ (40 ∷ (printed inner ++ (41 ∷ []))) ++ printed behind

-- how many bytes a form and what is behind it print to
pub form_length : (st : State) (n : ℕ) (inside : Option ℕ) (u : Tree) (there : FormThere st n inside u) → length (printed u) ≡ length (printed there.inner) + 2 + length (printed there.behind)
form_length st n inside u there =
    omega (arith, ap length there.prints, length-append (40 ∷ (printed there.inner ++ (41 ∷ []))) (printed there.behind), length-append (printed there.inner) (41 ∷ []))

pub token_there : (st : State) (n m : ℕ) (u : Tree) → Unfolds st (Some n) u → (link_at st n).cell.head ≡ H.Token m → TokenThere st n m u
token_there st n m nil h e = absurd h
token_there st n m (token k bs rest) h e =
    let is = subst (IsToken st k bs) e h.2 in record { kind = k; bytes = bs; behind = rest; lives = is.0; spells = is.1; of_tail = h.3; prints = refl }
token_there st n m (form inner rest) h e = absurd (subst (IsForm (λ first. Unfolds st first inner)) e h.2)

form_print : (inner rest : Tree) → printed (form inner rest) ≡ (40 ∷ (printed inner ++ (41 ∷ []))) ++ printed rest
form_print inner rest = ap (λ bs. 40 ∷ bs) (sym (append_assoc (printed inner) (41 ∷ []) (printed rest)))

pub form_there : (st : State) (n m : ℕ) (u : Tree) → Unfolds st (Some n) u → (link_at st n).cell.head ≡ H.Form m → FormThere st n (Some m) u
form_there st n m nil h e = absurd h
form_there st n m (token k bs rest) h e = absurd (subst (IsToken st k bs) e h.2)
form_there st n m (form inner rest) h e =
    record { inner = inner; behind = rest; of_inner = subst (IsForm (λ first. Unfolds st first inner)) e h.2; of_tail = h.3; prints = form_print inner rest }

pub empty_there : (st : State) (n : ℕ) (u : Tree) → Unfolds st (Some n) u → (link_at st n).cell.head ≡ H.EmptyForm → FormThere st n None u
empty_there st n nil h e = absurd h
empty_there st n (token k bs rest) h e = absurd (subst (IsToken st k bs) e h.2)
empty_there st n (form inner rest) h e =
    record { inner = inner; behind = rest; of_inner = subst (IsForm (λ first. Unfolds st first inner)) e h.2; of_tail = h.3; prints = form_print inner rest }

-- what is left fits into the buffer
pub room_left : (st : State) (first next : Option ℕ) (at place : ℕ) (before now : List ℕ) (p : Printing st first next at place before now) → place + width p.rest ≤ length now
room_left st first next at place before now p =
    omega (arith, p.room, p.put.0, p.put.3, ap length p.split ∙ length-append p.done (printed p.rest))

-- what was got is what the cell holds
pub got : {C : Type 0} (x : Counted C) (c : C) → Some c ≡ contents x → c ≡ x.cell
got {C = C} x c e = by (live x) e
  where
    by : (b : Bool) → Some c ≡ then_some b x.cell → c ≡ x.cell
    by true h = ap (λ o. unwrap_or o c) h
    by false h = absurd (true≢false (ap is_some h))

-- the chain behind an item is shorter
pub shorter : (st : State) (first next : Option ℕ) (t u : Tree) (x : List ℕ) → Unfolds st first t → Unfolds st next u → printed t ≡ x ++ printed u → 0 < length x → chain_width st next < chain_width st first
shorter st first next t u x of_t of_u e some = omega (arith, width_told st first t of_t, width_told st next u of_u, ap length e ∙ length-append x (printed u), some)

pub empty_inside : (st : State) (t : Tree) → Unfolds st None t → printed t ≡ []
empty_inside st nil h = refl
empty_inside st (token k bs rest) h = absurd h
empty_inside st (form inner rest) h = absurd h
