use Rattle.std.proofs.Common.{◌≡◌, ℕ, Some, is_some, sym, refl, ap, ◌∙◌, arith}
use Rattle.std.proofs.lemmas.Bool.{false≢true}
use Rattle.forest.specs.Unfolding.{link_at}
use Rattle.forest.proofs.Comparing.{Agreeing, met, parted, ended_first, ended_second, here, on, tokens_alike, forms_alike, empties_alike, tokens_apart, forms_apart, empties_apart, inside}
use Rattle.forest.proofs.Printing.{got}
use Rattle.forest.proofs.forest.Forest.+same.Goals as goal
use Rattle.forest.proofs.forest.Forest.+same.Goals.{In-Some-get, in_default, in_default-2}

-- the two links that are compared, as they were read
abbrev one_is : (t : ℕ) (c : In-Some-get t) → c.in-Some.a ≡ (link_at c.args.self.now c.in-Some-Some.m).cell
one_is t c = got (link_at c.args.self.now c.in-Some-Some.m) c.in-Some.a c.in-Some.ensures

abbrev other_is : (t : ℕ) (c : In-Some-get t) → c.in-Some-get.b ≡ (link_at c.args.self.now c.in-Some-Some.n).cell
other_is t c = got (link_at c.args.self.now c.in-Some-Some.n) c.in-Some-get.b c.in-Some-get.ensures

-- the chains agree so far
abbrev agreeing : (t : ℕ) (c : In-Some-get t) → Agreeing c.args.self.now c.args.left c.args.right (Some c.in-Some-Some.m) (Some c.in-Some-Some.n)
agreeing t c =
    here c.args.self.now c.args.left c.args.right c.loop-one.one c.loop-one.other c.in-Some-Some.m c.in-Some-Some.n c.in-Some.a c.in-Some-get.b
    c.loop-one.invariant c.in-Some-Some.is-0 c.in-Some-Some.is-1 (one_is t c) (other_is t c)

pub returns-then-m-n : goal.returns-then-m-n
returns-then-m-n t c =
    let st = c.args.self.now in
    let m = c.in-Some-Some.m in
    let n = c.in-Some-Some.n in
    met st c.args.left c.args.right m n (here st c.args.left c.args.right c.loop-one.one c.loop-one.other m n (link_at st m).cell (link_at st n).cell c.loop-one.invariant c.in-Some-Some.is-0 c.in-Some-Some.is-1 refl refl) c.if-m-n.true

pub returns-in_default-2 : goal.returns-in_default-2
returns-in_default-2 t c =
    let p = agreeing t (goal.at.returns-in_default-2 t c).In-Some-get in
    let a = one_is t (goal.at.returns-in_default-2 t c).In-Some-get in
    let b = other_is t (goal.at.returns-in_default-2 t c).In-Some-get in
    parted _ _ _ _ _ p
    (tokens_apart c.args.self.now _ _ p.v p.w p.of_one p.of_other c.in_default-2.field-0-0 (sym (ap (λ l. l.head) a) ∙ c.in_default-2.is-0) (λ y e. c.in_default-2.not-Token-1 y (ap (λ l. l.head) b ∙ e)))

pub returns-in_default-2-2 : goal.returns-in_default-2-2
returns-in_default-2-2 t c =
    let p = agreeing t (goal.at.returns-in_default-2-2 t c).In-Some-get in
    let a = one_is t (goal.at.returns-in_default-2-2 t c).In-Some-get in
    let b = other_is t (goal.at.returns-in_default-2-2 t c).In-Some-get in
    parted _ _ _ _ _ p
    (forms_apart c.args.self.now _ _ p.v p.w p.of_one p.of_other c.in_default-2.field-0-0 (sym (ap (λ l. l.head) a) ∙ c.in_default-2.is-0) (λ y e. c.in_default-2.not-Form-1 y (ap (λ l. l.head) b ∙ e)))

pub returns-in_default-2-3 : goal.returns-in_default-2-3
returns-in_default-2-3 t c =
    let p = agreeing t (goal.at.returns-in_default-2-3 t c).In-Some-get in
    let a = one_is t (goal.at.returns-in_default-2-3 t c).In-Some-get in
    let b = other_is t (goal.at.returns-in_default-2-3 t c).In-Some-get in
    parted _ _ _ _ _ p
    (empties_apart c.args.self.now _ _ p.v p.w p.of_one p.of_other (sym (ap (λ l. l.head) a) ∙ c.in_default-2.is-0) (λ e. c.in_default-2.not-EmptyForm-1 (ap (λ l. l.head) b ∙ e)))

pub returns-then-not-same_token : goal.returns-then-not-same_token
returns-then-not-same_token t c =
    let p = agreeing t (goal.at.returns-then-not-same_token t c).In-Some-get in
    let a = one_is t (goal.at.returns-then-not-same_token t c).In-Some-get in
    let b = other_is t (goal.at.returns-then-not-same_token t c).In-Some-get in
    let alike = tokens_alike c.args.self.now _ _ p.v p.w p.of_one p.of_other c.in-Token-Token.x c.in-Token-Token.y (sym (ap (λ l. l.head) a) ∙ c.in-Token-Token.is-0) (sym (ap (λ l. l.head) b) ∙ c.in-Token-Token.is-1) in
    parted _ _ _ _ _ p (λ same. false≢true (sym c.if-not-same_token.true ∙ c.same_token.ensures.1 (alike.1 same)))

pub loop-one-preserved-else-not-same_token : goal.loop-one-preserved-else-not-same_token
loop-one-preserved-else-not-same_token t c =
    let p = agreeing t (goal.at.loop-one-preserved-else-not-same_token t c).In-Some-get in
    let a = one_is t (goal.at.loop-one-preserved-else-not-same_token t c).In-Some-get in
    let b = other_is t (goal.at.loop-one-preserved-else-not-same_token t c).In-Some-get in
    let alike = tokens_alike c.args.self.now _ _ p.v p.w p.of_one p.of_other c.in-Token-Token.x c.in-Token-Token.y (sym (ap (λ l. l.head) a) ∙ c.in-Token-Token.is-0) (sym (ap (λ l. l.head) b) ∙ c.in-Token-Token.is-1) in
    on _ _ _ _ _ _ _ _ _ c.loop-one.invariant c.in-Some-Some.is-0 c.in-Some-Some.is-1 a b (alike.0 (c.same_token.ensures.0 c.if-not-same_token.false))

pub same-requires : goal.same-requires
same-requires t c =
    let p = agreeing t (goal.at.same-requires t c).In-Some-get in
    let a = one_is t (goal.at.same-requires t c).In-Some-get in
    let b = other_is t (goal.at.same-requires t c).In-Some-get in
    let one = inside c.args.self.now _ _ p.v p.w p.of_one p.of_other c.in-Form-Form.x (sym (ap (λ l. l.head) a) ∙ c.in-Form-Form.is-0) in
    let other = inside c.args.self.now _ _ p.w p.v p.of_other p.of_one c.in-Form-Form.y (sym (ap (λ l. l.head) b) ∙ c.in-Form-Form.is-1) in
    (omega (arith, one.1, p.near), (one.0, other.0))

pub returns-then-not-same : goal.returns-then-not-same
returns-then-not-same t c =
    let p = agreeing t (goal.at.returns-then-not-same t c).In-Some-get in
    let a = one_is t (goal.at.returns-then-not-same t c).In-Some-get in
    let b = other_is t (goal.at.returns-then-not-same t c).In-Some-get in
    let alike = forms_alike c.args.self.now _ _ p.v p.w p.of_one p.of_other c.in-Form-Form.x c.in-Form-Form.y (sym (ap (λ l. l.head) a) ∙ c.in-Form-Form.is-0) (sym (ap (λ l. l.head) b) ∙ c.in-Form-Form.is-1) c.same.result c.same.ensures in
    parted _ _ _ _ _ p (λ same. false≢true (sym c.if-not-same.true ∙ alike.1 same))

pub loop-one-preserved-else-not-same : goal.loop-one-preserved-else-not-same
loop-one-preserved-else-not-same t c =
    let p = agreeing t (goal.at.loop-one-preserved-else-not-same t c).In-Some-get in
    let a = one_is t (goal.at.loop-one-preserved-else-not-same t c).In-Some-get in
    let b = other_is t (goal.at.loop-one-preserved-else-not-same t c).In-Some-get in
    let alike = forms_alike c.args.self.now _ _ p.v p.w p.of_one p.of_other c.in-Form-Form.x c.in-Form-Form.y (sym (ap (λ l. l.head) a) ∙ c.in-Form-Form.is-0) (sym (ap (λ l. l.head) b) ∙ c.in-Form-Form.is-1) c.same.result c.same.ensures in
    on _ _ _ _ _ _ _ _ _ c.loop-one.invariant c.in-Some-Some.is-0 c.in-Some-Some.is-1 a b (alike.0 c.if-not-same.false)

pub loop-one-preserved : goal.loop-one-preserved
loop-one-preserved t c =
    let p = agreeing t (goal.at.loop-one-preserved t c).In-Some-get in
    let a = one_is t (goal.at.loop-one-preserved t c).In-Some-get in
    let b = other_is t (goal.at.loop-one-preserved t c).In-Some-get in
    on _ _ _ _ _ _ _ _ _ c.loop-one.invariant c.in-Some-Some.is-0 c.in-Some-Some.is-1 a b
    (empties_alike c.args.self.now _ _ p.v p.w p.of_one p.of_other (sym (ap (λ l. l.head) a) ∙ c.in-EmptyForm-EmptyForm.is-0) (sym (ap (λ l. l.head) b) ∙ c.in-EmptyForm-EmptyForm.is-1))

pub returns-then-is_none : goal.returns-then-is_none
returns-then-is_none t c =
    let st = c.args.self.now in
    ended_first st c.args.left c.args.right c.loop-one.one c.loop-one.other c.loop-one.invariant
    (λ m n e f. elim c.match-one.branch [ in_default w ↦ false≢true (ap is_some (sym w.in_default.is-1 ∙ f)) | in_default-2 w ↦ false≢true (ap is_some (sym w.in_default.is-0 ∙ e)) ])
    c.is_none-then-is_none.result c.if-is_none.ensures c.is_none-then-is_none.ensures

pub returns-else-is_none : goal.returns-else-is_none
returns-else-is_none t c =
    let st = c.args.self.now in
    ended_second st c.args.left c.args.right c.loop-one.one c.loop-one.other c.loop-one.invariant
    (λ m n e f. elim c.match-one.branch [ in_default w ↦ false≢true (ap is_some (sym w.in_default.is-1 ∙ f)) | in_default-2 w ↦ false≢true (ap is_some (sym w.in_default.is-0 ∙ e)) ])
    c.is_none.result c.if-is_none.false c.is_none.ensures
