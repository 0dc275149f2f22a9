-- What the definitions say of one another.
use Rattle.std.specs.Prelude.{◌≡◌, ◌<◌, [], length}
use Rattle.std.specs.List.{All}
use Rattle.std.specs.List.Sorted.{IsStrictlyIncreasing}
use Rattle.cdc_prog.specs.declared.program.Marks.{Marks}
use Rattle.cdc_prog.specs.Plain.{Program}
use Rattle.cdc_prog.specs.Resolved.{IsResolved, HasNoCall}
use Rattle.cdc_prog.specs.Units.{body_of}
use Rattle.cdc_path.specs.Courses.{unit_course, program_course}
use Rattle.cdc_path.specs.Marks.{AreMarks}

-- the paths of a resolved program without CALL are those of its main unit, whose points stand under the empty call path
abbrev pub UncalledIsOneUnit : Type 0
UncalledIsOneUnit = (p : Program) → IsResolved p → HasNoCall p → program_course p ≡ unit_course [] (body_of p p.main)

-- a program has one list of marks, and one pair of written lists
abbrev pub MarksAreOne : Type 0
MarksAreOne = (p : Program) (m n : Marks) → AreMarks p m → AreMarks p n → m ≡ n

-- each number of a written list is below the next
abbrev pub WrittenListsIncrease : Type 0
WrittenListsIncrease = (p : Program) (m : Marks) → AreMarks p m → All IsStrictlyIncreasing m.entries × All IsStrictlyIncreasing m.exits

-- the written lists of a resolved program have no numbers but those of its objects
abbrev pub WrittenListsAreOfObjects : Type 0
WrittenListsAreOfObjects =
    (p : Program) (m : Marks) → IsResolved p → AreMarks p m → All (All (λ object. object < length p.objects)) m.entries × All (All (λ object. object < length p.objects)) m.exits
