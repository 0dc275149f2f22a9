-- One walk over a program that tests its DOALLs.
use Rattle.std.specs.Prelude.{ℕ, ◌-◌, nat_lt, Bool, not, ◌&&◌, if◌then◌else◌, List, [], ◌∷◌, Option, Some, None}
use Rattle.cdc_base.specs.declared.place.Place.{Place}
use Rattle.cdc_prog.specs.declared.program.Dim.{Dim}
use Rattle.cdc_prog.specs.declared.program.Object.{Object}
use Rattle.cdc_prog.specs.Plain.{Stmt, Seq, If, Arm, Do, Doall, ProgramUnit}
use Rattle.cdc_prog.specs.Dependence.{shapes_of}
use Rattle.cdc_subtest.specs.declared.conflict.Search.{Search}
use Rattle.cdc_subtest.specs.Seen.{places_in}

-- whether a DOALL of this number is still to be tested
abbrev pub is_before : Search → (number : ℕ) → Bool
is_before search number = nat_lt 0 number && not (nat_lt search.last number)

-- with what the test of a DOALL has found
abbrev pub with_pair : Search → (number : ℕ) → Option (Place × Place) → Search
with_pair search number None = search
with_pair search number (Some pair) = record { last = number - 1; pair = Some pair }

abbrev pub searched : List Object → (shapes : List (List Dim)) → Stmt → Search → Search
searched objects shapes (Seq a b) search = searched objects shapes b (searched objects shapes a search)
searched objects shapes (If arms) search = searched objects shapes arms search
searched objects shapes (Arm line cond body other) search = searched objects shapes other (searched objects shapes body search)
searched objects shapes (Do k first body again bump) search = searched objects shapes body search
searched objects shapes (Doall k number slots body) search =
    if is_before search number then with_pair search number (places_in objects shapes k slots body) else search
searched objects shapes s search = search

abbrev pub searched_units : List Object → List ProgramUnit → Search → Search
searched_units objects [] search = search
searched_units objects (u ∷ us) search = searched_units objects us (searched objects (shapes_of u.dummies) u.body search)
