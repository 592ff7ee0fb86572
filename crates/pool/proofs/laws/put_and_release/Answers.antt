use Rattle.std.proofs.Common.{◌∙◌}
use Rattle.pool.proofs.Balancing.{put_and_released}
use Rattle.pool.proofs.laws.put_and_release.Goals as goal

pub returns : goal.returns
returns g c =
    let all = put_and_released g.C.CellKind.empty c.args.cells.now c.put.new.cells c.release.new.cells c.args.cell c.in-Some.index c.release.result c.requires.tidy c.in-Some.ensures.puts c.release.ensures.releases in
    record {
      room = c.is_some.ensures ∙ all.0;
      same = all.1;
      fits = c.release.ensures.fits;
    }
