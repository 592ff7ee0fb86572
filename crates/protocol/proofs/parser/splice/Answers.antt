use Rattle.protocol.specs.Paths.{steps_of}
use Rattle.protocol.proofs.Asking.{no_path, no_space, no_first, no_removed}
use Rattle.protocol.proofs.parser.splice.Goals as goal

pub returns-in_err-path : goal.returns-in_err-path
returns-in_err-path c =
    let handle = c.in_ok-handle.ensures in
    rw c.from_residual-in_err-path.ensures
    (no_path c.args.arguments.now c.in_ok-handle.handle c.in_ok-handle.rest.now handle.0 handle.1 c.in_err-path.ensures)

pub returns-in_err-rest : goal.returns-in_err-rest
returns-in_err-rest c =
    let handle = c.in_ok-handle.ensures in
    let path = c.in_ok-path.ensures in
    rw c.from_residual-in_err-rest.ensures
    (no_space c.args.arguments.now c.in_ok-handle.handle c.in_ok-handle.rest.now handle.0 handle.1
    (steps_of c.in_ok-path.path) c.in_ok-path.rest.now path.1 path.2 c.in_err-rest.ensures)

pub returns-in_err-first : goal.returns-in_err-first
returns-in_err-first c =
    let handle = c.in_ok-handle.ensures in
    let path = c.in_ok-path.ensures in
    rw c.from_residual-in_err-first.ensures
    (no_first c.args.arguments.now c.in_ok-handle.handle c.in_ok-handle.rest.now handle.0 handle.1
    (steps_of c.in_ok-path.path) c.in_ok-path.rest.now path.1 path.2 c.in_ok-rest.rest.now c.in_ok-rest.ensures c.in_err-first.ensures)

pub returns-in_err-removed : goal.returns-in_err-removed
returns-in_err-removed c =
    let handle = c.in_ok-handle.ensures in
    let path = c.in_ok-path.ensures in
    let first = c.in_ok-first.ensures in
    rw c.from_residual-in_err-removed.ensures
    (no_removed c.args.arguments.now c.in_ok-handle.handle c.in_ok-handle.rest.now handle.0 handle.1
    (steps_of c.in_ok-path.path) c.in_ok-path.rest.now path.1 path.2 c.in_ok-rest.rest.now c.in_ok-rest.ensures
    c.in_ok-first.first c.in_ok-first.rest.now first.0 first.1 c.in_err-removed.ensures)
