use Rattle.std.proofs.Common.{◌+◌, [], ◌∷◌, sym, ap, ◌∙◌, subst, arith, rules}
use Rattle.pool.specs.Cells.{Fits, live_number}
use Rattle.pool.specs.Counts.{slot, named}
use Rattle.forest.specs.Slots.{tokens, links, then, head_slots}
use Rattle.forest.specs.Blanks.{blank_link}
use Rattle.forest.specs.States.{spare}
use Rattle.forest.proofs.Letting.{Going, form_held, next_held, goes_on, named_more, kept_same}
use Rattle.forest.proofs.Moving.{token_names_nothing}
use Rattle.forest.proofs.forest.Forest.+let_go.Goals as goal

pub let_go-requires : goal.let_go-requires
let_go-requires g t c κs within =
    let released = c.in-Some-release.ensures in
    let now = c.loop-next.self in
    let tokens : Fits (g.T.CellAllocator.allocated c.loop-next.leaves) c.release.new.forest.tokens = subst (Fits _) (sym (ap (λ st. st.tokens) released.others)) c.loop-next.invariant.1 in
    let first = next_held c.args.self.now now c.args.first c.in-Some.n (subst (Going c.args.self.now now c.args.first) c.in-Some.is c.loop-next.invariant.0) c.requires.held in
    let held = form_held now c.release.new.forest c.in-Some.n c.in-Some-release.link released.moved.1 c.in-Form.inner c.in-Form.is first in
    let fewer = c.loop-next.invariant.0.fewer in
    search rules

pub loop-next-preserved-in-Token : goal.loop-next-preserved-in-Token
loop-next-preserved-in-Token g t c =
    let begin = c.args.self.now in
    let now = c.loop-next.self in
    let between = c.release.new.forest in
    let after = c.release-died.new.forest in
    let tail = c.in-Some-release.link.tail in
    let token = slot tokens c.in-Token.token in
    let released = c.in-Some-release.ensures in
    let dropped = c.release-died.ensures in
    let going = subst (Going begin now c.args.first) c.in-Some.is c.loop-next.invariant.0 in (
      goes_on begin now between after c.args.first c.in-Some.n tail (token ∷ []) going
          (λ s. released.moved.1 s ∙ ap (λ k. spare now s + k) (ap (λ h. named (head_slots h (then links tail [])) s) c.in-Token.is ∙ named_more token (then links tail []) s))
          released.kept (ap (λ st. st.tokens) released.others) (ap (λ st. st.versions) released.others) released.dies
          (dropped.moved.0, (λ s. dropped.moved.1 s ∙ ap (λ k. spare between s + k) (token_names_nothing c.release-died.result s)))
          dropped.kept (kept_same blank_link (ap (λ st. st.links) dropped.others)) (ap (λ st. st.versions) dropped.others)
          (omega (arith, ap (λ st. live_number st.links) dropped.others)),
      dropped.fits,
      subst (Fits _) (sym (ap (λ st. st.links) dropped.others)) released.fits,
    )
