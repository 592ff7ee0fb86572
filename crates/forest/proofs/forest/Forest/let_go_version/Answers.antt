use Rattle.std.proofs.Common.{sym, ap, subst}
use Rattle.pool.specs.Cells.{Fits}
use Rattle.forest.proofs.Letting.{GoingBack, goes_back}
use Rattle.forest.proofs.forest.Forest.let_go_version.Goals as goal

pub loop-next-preserved : goal.loop-next-preserved
loop-next-preserved g c =
    let begin = c.args.self.now in
    let now = c.loop-next.self in
    let between = c.release.new.forest in
    let after = c.let_go.new.self in
    let released = c.in-Some-release.ensures in
    let gone = c.let_go.ensures in
    let going = subst (GoingBack begin now c.args.first) c.in-Some.is c.loop-next.invariant.0 in (
      goes_back begin now between after c.args.first c.in-Some.n c.in-Some-release.version going released.moved.1
          (ap (λ st. st.tokens) released.others) (ap (λ st. st.links) released.others) released.kept
          gone.moved gone.kept_tokens gone.kept_links gone.versions,
      gone.tokens,
      gone.links,
      subst (Fits _) (sym gone.versions) released.fits,
    )
