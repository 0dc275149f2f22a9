-- Code that does a process goes on.
use Rattle.std.proofs.Common.{ℕ, zero, suc, ◌+◌, List, [], ◌∷◌, length, get_or, sym, subst, arith}
use Rattle.std.specs.Prelude.{slice_get, MatchOption}
use Rattle.std.specs.List.{All}
use Rattle.std.proofs.lemmas.List.Elements.{All-nil, All-head, All-tail}
use Rattle.cdc_prog.specs.declared.expr.Var.{Var}
use Rattle.cdc_prog.specs.declared.expr.Var.TheVariants as var
use Rattle.cdc_prog.specs.declared.program.Mark.{Mark}
use Rattle.cdc_prog.specs.declared.program.Object.{Object}
use Rattle.cdc_prog.specs.Data.{dims_in, dims_at}
use Rattle.cdc_prog.specs.Process.{Process, Load, Save, Say, Tick, Fork, Join, Halt, Fail}
use Rattle.cdc_prog.specs.Bodies.{StaysBelow}
use Rattle.cdc_code.specs.declared.code.Code.{Code}
use Rattle.cdc_code.specs.declared.instr.Instr.{Instr}
use Rattle.cdc_code.specs.declared.instr.Instr.TheVariants as instr
use Rattle.cdc_code.specs.declared.instr.Step.{Step}
use Rattle.cdc_code.specs.Frames.{Frame}
use Rattle.cdc_code.specs.Rows.{act}
use Rattle.cdc_code.specs.Room.{IsWithin, IsNamed, NamesWithin}
use Rattle.cdc_code.specs.Does.{Comes, here, after, Reach, Does}
use Rattle.cdc_task.specs.Steps.{IsFit, IsArray, NamesRight, GoesOn}
use Rattle.cdc_task.specs.Laws.{HasArrays}

all_or : {X : Type 0} (P : X → Type 0) (xs : List X) (k : ℕ) (d : X) → P d → All P xs → P (get_or xs k d)
all_or P [] k d h a = h
all_or P (x ∷ xs) zero d h a = All-head P x xs a
all_or P (x ∷ xs) (suc k) d h a = all_or P xs k d h (All-tail P x xs a)

scalar : IsArray []
scalar = (omega arith, omega arith)

object_dims : (os : List Object) (k : ℕ) → All (λ o. IsArray o.dims) os → IsArray (dims_in (slice_get os k))
object_dims [] k a = scalar
object_dims (o ∷ os) zero a = All-head (λ (o : Object). IsArray o.dims) o os a
object_dims (o ∷ os) (suc k) a = object_dims os k (All-tail (λ (o : Object). IsArray o.dims) o os a)

module _ (code : Code) (named : NamesWithin code) (objects : All (λ o. IsArray o.dims) code.objects) (dummies : HasArrays code) where
  -- ---- names
  variable_dims : (u : ℕ) (v : Var) → IsArray (dims_at code.objects (get_or code.shapes u []) v)
  variable_dims u (var.Object k) = object_dims code.objects k objects
  variable_dims u (var.Dummy k) = all_or IsArray (get_or code.shapes u []) k [] scalar (all_or (λ shapes. All IsArray shapes) code.shapes u [] (All-nil IsArray) dummies)
  variable_dims u (var.Slot k) = scalar

  named_right : (u : ℕ) (i : Instr) → IsNamed (length code.texts) i → NamesRight code u i
  named_right u (instr.Local k) h = h
  named_right u (instr.Setlocal k) h = h
  named_right u (instr.Index v) h = variable_dims u v
  named_right u i h = tt

  right_at : (u : ℕ) (is : List Step) (k : ℕ) → All (λ i. IsNamed (length code.texts) i.instr) is → MatchOption (slice_get is k) (Unit {0}) (λ i. NamesRight code u i.instr)
  right_at u [] k a = tt
  right_at u (i ∷ is) zero a = named_right u i.instr (All-head (λ (i : Step). IsNamed (length code.texts) i.instr) i is a)
  right_at u (i ∷ is) (suc k) a = right_at u is k (All-tail (λ (i : Step). IsNamed (length code.texts) i.instr) i is a)

  goes : (f : Frame) → IsFit code.words (act code f) → GoesOn code f
  goes f fit = record { acts = fit; names = right_at f.kept.unit code.steps f.pc named }

  -- ---- frames that are reached
  module _ (marks : List Mark) where
    at_first : (k : ℕ) (f g : Frame) → Comes code marks IsWithin k f g → IsWithin f
    at_first k f g (here _ ok) = ok
    at_first k f g (after _ _ _ _ ok q rest) = ok

    comes : (k : ℕ) (f g : Frame) → Comes code marks IsWithin k f g → IsFit code.words (act code g) → Comes code marks (GoesOn code) k f g
    comes k f g (here _ ok) fit = here f (goes f fit)
    comes k f h (after n _ g _ ok q rest) fit = after n f g h (goes f (subst (IsFit code.words) (sym q) (at_first n g h rest))) q (comes n g h rest fit)

    reach : {price : ℕ} (n : ℕ) (f : Frame) (P R : ℕ → Frame → Type 0) → ((m : ℕ) (g : Frame) → P m g → R m g × IsFit code.words (act code g)) → Reach code marks IsWithin price n f P → Reach code marks (GoesOn code) price n f R
    reach n f P R step r =
        let h = step r.left r.place r.does in
        record { steps = r.steps; left = r.left; within = r.within; place = r.place; comes = comes r.steps f r.place r.comes h.1; does = h.0 }

    within : (b : ℕ) (q : Process) (f : Frame) → Does code marks IsWithin b q f → IsWithin f
    within b (Tick next) f d = within (b + 8) next f d
    within b (Load path site w next) f d = at_first d.steps f d.place d.comes
    within b (Save path site w v next) f d = at_first d.steps f d.place d.comes
    within b (Say piece next) f d = at_first d.steps f d.place d.comes
    within b (Fork path number count from by body next) f d = at_first d.steps f d.place d.comes
    within b Join f d = at_first d.steps f d.place d.comes
    within b Halt f d = at_first d.steps f d.place d.comes
    within b (Fail kind line) f d = at_first d.steps f d.place d.comes

    pub stronger : (b : ℕ) (q : Process) (f : Frame) → StaysBelow code.words q → Does code marks IsWithin b q f → Does code marks (GoesOn code) b q f
    stronger b (Tick next) f low d = stronger (b + 8) next f low d
    stronger b (Load path site w next) f low d =
        reach b f _ _ (λ m g h. ((h.0, h.1, λ v. stronger m (next v) (h.0 v) (low.1 v) (h.2 v)), subst (IsFit code.words) (sym h.1) (low.0, λ v. within m (next v) (h.0 v) (h.2 v)))) d
    stronger b (Save path site w v next) f low d =
        reach b f _ _ (λ m g h. ((h.0, h.1, stronger m next h.0 low.1 h.2), subst (IsFit code.words) (sym h.1) (low.0, within m next h.0 h.2))) d
    stronger b (Say piece next) f low d =
        reach b f _ _ (λ m g h. ((h.0, h.1, stronger m next h.0 low h.2), subst (IsFit code.words) (sym h.1) (within m next h.0 h.2))) d
    stronger b (Fork path number count from by body next) f low d =
        reach b f _ _ (λ m g h. ((h.0, h.1, h.2, λ k. stronger 0 (body k) (h.0 k) (low.1 k) (h.3 k), stronger m next h.1 low.2 h.4), subst (IsFit code.words) (sym h.2) (within m next h.1 h.4))) d
    stronger b Join f low d = reach b f _ _ (λ m g h. (h, subst (IsFit code.words) (sym h) tt)) d
    stronger b Halt f low d = reach b f _ _ (λ m g h. (h, subst (IsFit code.words) (sym h) tt)) d
    stronger b (Fail kind line) f low d = reach b f _ _ (λ m g h. (h, subst (IsFit code.words) (sym h) tt)) d

-- ---- at a frame
first_goes_on : (code : Code) (marks : List Mark) (k : ℕ) (f g : Frame) → Comes code marks (GoesOn code) k f g → GoesOn code f
first_goes_on code marks k f g (here _ ok) = ok
first_goes_on code marks k f g (after _ _ _ _ ok q rest) = ok

pub goes_on_here : (code : Code) (marks : List Mark) (b : ℕ) (q : Process) (f : Frame) → Does code marks (GoesOn code) b q f → GoesOn code f
goes_on_here code marks b (Tick next) f d = goes_on_here code marks (b + 8) next f d
goes_on_here code marks b (Load path site w next) f d = first_goes_on code marks d.steps f d.place d.comes
goes_on_here code marks b (Save path site w v next) f d = first_goes_on code marks d.steps f d.place d.comes
goes_on_here code marks b (Say piece next) f d = first_goes_on code marks d.steps f d.place d.comes
goes_on_here code marks b (Fork path number count from by body next) f d = first_goes_on code marks d.steps f d.place d.comes
goes_on_here code marks b Join f d = first_goes_on code marks d.steps f d.place d.comes
goes_on_here code marks b Halt f d = first_goes_on code marks d.steps f d.place d.comes
goes_on_here code marks b (Fail kind line) f d = first_goes_on code marks d.steps f d.place d.comes
