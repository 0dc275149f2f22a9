use Rattle.std.proofs.Common.{◌≡◌, drop, map}
use Rattle.std.specs.Prelude.{if◌then◌else◌}
use Rattle.cdc_tree.specs.Units.{body, branch, branches_of, out, branches_out}
use Rattle.cdc_names.specs.Places.{sooner, first_of}
use Rattle.cdc_names.specs.DoallBodies.{misplaced, body_inside, branches_inside}
use Rattle.cdc_names.proofs.doall_bodies.+bodies.Given as goal

abbrev pub invariant-nodes-loop-n : goal.invariant-nodes-loop-n
invariant-nodes-loop-n l =
    sooner l.best (first_of misplaced (if l.inside then out (body (drop l.n-index l.ns)) else body_inside (body (drop l.n-index l.ns))))
    ≡ first_of misplaced (if l.inside then out (body l.ns) else body_inside (body l.ns))

abbrev pub invariant-branches-loop-b : goal.invariant-branches-loop-b
invariant-branches-loop-b l =
    sooner l.best (first_of misplaced (if l.inside then branches_out (branches_of (map branch (drop l.b-index l.bs))) else branches_inside (branches_of (map branch (drop l.b-index l.bs)))))
    ≡ first_of misplaced (if l.inside then branches_out (branches_of (map branch l.bs)) else branches_inside (branches_of (map branch l.bs)))
