-- A name that stands twice in one list of names.
use Rattle.std.specs.Prelude.{ℕ, Bool, not, ◌||◌, ◌&&◌, if◌then◌else◌, List, [], ◌∷◌, ◌++◌, map, Option, Some, None}
use Rattle.std.specs.Str.{bytes_eq}
use Rattle.cdc_base.specs.declared.place.Place.{Place}
use Rattle.cdc_tree.specs.declared.tree.Named.{Named}
use Rattle.cdc_tree.specs.Forms.{PForm, FProgram, FSubroutine, FDoall}
use Rattle.cdc_tree.specs.Units.{PNode, NPlain, NIf, NElse, NLoop, PBody, Empty, More, PBranches, BNone, BMore, PUnit}
use Rattle.cdc_names.specs.Declarations.{declared_in}
use Rattle.cdc_names.specs.Places.{before, joined}

-- where a name stands first
abbrev pub place_in : List ℕ → List Named → Option Place
place_in name [] = None
place_in name (n ∷ ns) = if bytes_eq name n.name then Some n.place else place_in name ns

abbrev pub beside : Place → Option Place → Option (Place × Place) → Option (Place × Place)
beside p None later = later
beside p (Some q) later = Some (p, q)

-- the first name that stands again further on, and where it stands next
abbrev pub twice : List Named → Option (Place × Place)
twice [] = None
twice (n ∷ ns) = beside n.place (place_in n.name ns) (twice ns)

-- whether a pair stands before another: by its first place, then by its second
abbrev pub before_pair : Place × Place → Place × Place → Bool
before_pair p q = before p.0 q.0 || (not (before q.0 p.0) && before p.1 q.1)

abbrev pub sooner_pair : Option (Place × Place) → Option (Place × Place) → Option (Place × Place)
sooner_pair None b = b
sooner_pair (Some p) None = Some p
sooner_pair (Some p) (Some q) = if before_pair q p then Some q else Some p

-- the first pair of equal names in one of the lists, or an earlier pair that is known
abbrev pub first_pair : Option (Place × Place) → List (List Named) → Option (Place × Place)
first_pair best [] = best
first_pair best (names ∷ lists) = first_pair (sooner_pair best (twice names)) lists

-- the index of a DOALL and its private names
abbrev pub slot_names : PForm → List (List Named)
slot_names (FDoall l privates) = (l.0 ∷ privates) ∷ []
slot_names _ = []

abbrev mutual
  pub node_lists : PNode → List (List Named)
  node_lists (NPlain s) = []
  node_lists (NIf branches end) = branches_lists branches
  node_lists (NElse branches head other end) = branches_lists branches ++ body_lists other
  node_lists (NLoop head inner end) = slot_names head.form ++ body_lists inner

  pub body_lists : PBody → List (List Named)
  body_lists Empty = []
  body_lists (More n rest) = node_lists n ++ body_lists rest

  pub branches_lists : PBranches → List (List Named)
  branches_lists BNone = []
  branches_lists (BMore head inner rest) = body_lists inner ++ branches_lists rest

-- for each DOALL its index and private names
abbrev pub slot_lists : List PUnit → List (List Named)
slot_lists units = joined (map (λ u. body_lists u.body) units)

abbrev pub dummy_names : PForm → List Named
dummy_names (FSubroutine name dummies) = dummies
dummy_names _ = []

abbrev pub declared_names : PUnit → List Named
declared_names u = map (λ d. d.named) (declared_in u.declarations)

-- the lists of one unit: its declarations, its dummies, and the slots of each of its DOALL loops
abbrev pub unit_lists : PUnit → List (List Named)
unit_lists u = (declared_names u ∷ dummy_names u.head.form ∷ []) ++ body_lists u.body

abbrev pub unit_name : PForm → List Named
unit_name (FProgram name) = name ∷ []
unit_name (FSubroutine name dummies) = name ∷ []
unit_name _ = []

-- the names of the units
abbrev pub head_names : List PUnit → List Named
head_names units = joined (map (λ u. unit_name u.head.form) units)

abbrev pub name_lists : List PUnit → List (List Named)
name_lists units = (head_names units ∷ []) ++ joined (map unit_lists units)

-- the first pair of places at which a name stands twice
abbrev pub duplicate_in : List PUnit → Option (Place × Place)
duplicate_in units = first_pair None (name_lists units)
