-- A chain that is let go, link by link. Assumes nothing.
use Rattle.std.proofs.Common.{◌≡◌, ℕ, ◌+◌, ◌<◌, ◌≤◌, cond, eqb, List, [], ◌∷◌, IfSome, Some, None, Option, sym, refl, ap, ◌∙◌, subst, arith}
use Rattle.std.proofs.lemmas.Bool.{and_from, eq-eqb}
use Rattle.pool.specs.Cells.{live_number}
use Rattle.std.proofs.lemmas.List.Sums.{sum_by-cons}
use Rattle.pool.specs.Counts.{slot, same, named}
use Rattle.pool.specs.declared.cell.Slot.{Slot}
use Rattle.pool.specs.declared.counted.Counted.{Counted}
use Rattle.forest.specs.Blanks.{blank_token, blank_link, blank_version}
use Rattle.forest.specs.declared.cells.Link.{Link}
use Rattle.forest.specs.declared.cells.Version.{Version}
use Rattle.forest.specs.declared.cells.Head.TheVariants as H
use Rattle.forest.specs.Slots.{links, versions, then, head_slots}
use Rattle.forest.proofs.Moving.{one_held}
use Rattle.forest.specs.States.{State, link_slots, version_slots, spare, Covers, Moved, Kept}

-- from the state in which letting go began to the present one
pub record Going (begin now : State) (first next : Option ℕ) : Type 0 where
  pub covers : Covers now
  pub holders : (s : Slot) → spare now s + named (then links first []) s ≡ spare begin s + named (then links next []) s
  pub kept_tokens : Kept blank_token begin.tokens now.tokens
  pub kept_links : Kept blank_link begin.links now.links
  pub versions : now.versions ≡ begin.versions
  pub fewer : live_number now.links ≤ live_number begin.links

kept_on : {C : Type 0} (blank : C) (a b c : List (Counted C)) → Kept blank a b → Kept blank b c → Kept blank a c
kept_on blank a b c first second n alive =
    let later = second n alive in
    let earlier = first n later.0 in
    (earlier.0, later.1 ∙ earlier.1)

pub kept_same : {C : Type 0} (blank : C) {a b : List (Counted C)} → b ≡ a → Kept blank a b
kept_same blank {a = a} e = subst (Kept blank a) (sym e) (λ n alive. (alive, refl))

-- a cell names itself once
pub one_self : (p n : ℕ) → named (slot p n ∷ []) (slot p n) ≡ 1
one_self p n = ap (λ b. 0 + cond {A = ℕ} b 1 0) (and_from (eqb p p) (eqb n n) (eq-eqb p p refl) (eq-eqb n n refl))

-- nothing was let go yet
pub begins : (st : State) (first : Option ℕ) → Covers st → Going st st first first
begins st first covers =
    record { covers = covers; holders = λ s. refl; kept_tokens = λ n alive. (alive, refl); kept_links = λ n alive. (alive, refl); versions = refl; fewer = omega arith }

-- the next link is held
pub next_held : (begin now : State) (first : Option ℕ) (n : ℕ) → Going begin now first (Some n) → IfSome first (λ m. 0 < spare begin (slot links m)) → 0 < spare now (slot links n)
next_held begin now None n going held = omega (arith, going.holders (slot links n), one_self 1 n)
next_held begin now (Some m) n going held =
    omega (arith, going.holders (slot links n), one_self 1 n, one_held (spare begin) 1 m held (slot links n))

-- a link was released, and what its head named was let go
pub goes_on : (begin now then₁ after : State) (first : Option ℕ) (n : ℕ) (tail : Option ℕ) (head : List Slot) →
    Going begin now first (Some n) →
    ((s : Slot) → spare then₁ s + named (slot links n ∷ []) s ≡ spare now s + (named head s + named (then links tail []) s)) →
    Kept blank_link now.links then₁.links → then₁.tokens ≡ now.tokens → then₁.versions ≡ now.versions → live_number then₁.links + 1 ≡ live_number now.links →
    Moved then₁ after (named head) (λ _. 0) → Kept blank_token then₁.tokens after.tokens → Kept blank_link then₁.links after.links → after.versions ≡ then₁.versions → live_number after.links ≤ live_number then₁.links →
    Going begin after first tail
goes_on begin now then₁ after first n tail head going moved kept same_tokens same_versions died moved₁ kept_t kept_l same_v fewer =
    record {
      covers = moved₁.0;
      holders = λ s. omega (arith, going.holders s, moved s, moved₁.1 s);
      kept_tokens = kept_on blank_token begin.tokens now.tokens after.tokens going.kept_tokens (subst (λ cs. Kept blank_token cs after.tokens) same_tokens kept_t);
      kept_links = kept_on blank_link begin.links now.links after.links going.kept_links (kept_on blank_link now.links then₁.links after.links kept kept_l);
      versions = same_v ∙ same_versions ∙ going.versions;
      fewer = omega (arith, fewer, died, going.fewer);
    }

pub named_more : (t : Slot) (ss : List Slot) (s : Slot) → named (t ∷ ss) s ≡ named (t ∷ []) s + named ss s
named_more t ss s = omega (arith, sum_by-cons (λ u. cond {A = ℕ} (same s u) 1 0) t ss, sum_by-cons (λ u. cond {A = ℕ} (same s u) 1 0) t [])

-- what a dead link named is held by whoever released it
module _ (now after : State) (n : ℕ) (link : Link) (moved : (s : Slot) → spare after s + named (slot links n ∷ []) s ≡ spare now s + named (link_slots link) s) where
  pub form_held : (m : ℕ) → link.head ≡ H.Form m → 0 < spare now (slot links n) → 0 < spare after (slot links m)
  form_held m is held =
      let s = slot links m in
      let slots : named (link_slots link) s ≡ named (slot links m ∷ then links link.tail []) s = ap (λ h. named (head_slots h (then links link.tail [])) s) is in
      omega (arith, moved s, slots, named_more (slot links m) (then links link.tail []) s, one_self 1 m, one_held (spare now) 1 n held s)

-- versions that are let go, from the newest back
pub record GoingBack (begin now : State) (first next : Option ℕ) : Type 0 where
  pub covers : Covers now
  pub holders : (s : Slot) → spare now s + named (then versions first []) s ≡ spare begin s + named (then versions next []) s
  pub kept_tokens : Kept blank_token begin.tokens now.tokens
  pub kept_links : Kept blank_link begin.links now.links
  pub kept_versions : Kept blank_version begin.versions now.versions

named_then : (p : ℕ) (o : Option ℕ) (ss : List Slot) (s : Slot) → named (then p o ss) s ≡ named (then p o []) s + named ss s
named_then p None ss s = omega arith
named_then p (Some n) ss s = named_more (slot p n) ss s

-- a version was released, and its chain let go
pub goes_back : (begin now then₁ after : State) (first : Option ℕ) (n : ℕ) (version : Version) →
    GoingBack begin now first (Some n) →
    ((s : Slot) → spare then₁ s + named (slot versions n ∷ []) s ≡ spare now s + named (version_slots version) s) →
    then₁.tokens ≡ now.tokens → then₁.links ≡ now.links → Kept blank_version now.versions then₁.versions →
    Moved then₁ after (named (then links version.root [])) (λ _. 0) → Kept blank_token then₁.tokens after.tokens → Kept blank_link then₁.links after.links → after.versions ≡ then₁.versions →
    GoingBack begin after first version.older
goes_back begin now then₁ after first n version going moved same_tokens same_links kept moved₁ kept_t kept_l same_v =
    record {
      covers = moved₁.0;
      holders = λ s. omega (arith, going.holders s, moved s, moved₁.1 s, named_then links version.root (then versions version.older []) s);
      kept_tokens = kept_on blank_token begin.tokens now.tokens after.tokens going.kept_tokens (subst (λ cs. Kept blank_token cs after.tokens) same_tokens kept_t);
      kept_links = kept_on blank_link begin.links now.links after.links going.kept_links (subst (λ cs. Kept blank_link cs after.links) same_links kept_l);
      kept_versions = kept_on blank_version begin.versions now.versions after.versions going.kept_versions (subst (Kept blank_version now.versions) (sym same_v) kept);
    }
