-- A line that is read as a statement is written so.
use Rattle.std.proofs.Common.{◌≡◌, List, [], ◌∷◌, ◌++◌, length, Option, Some, None, refl, sym, ap, subst, ◌∙◌, append_assoc, inl, inr, ◌⊎◌}
use Rattle.std.proofs.lemmas.List.{append-nil}
use Rattle.cdc_base.specs.declared.place.Place.{Place}
use Rattle.cdc_token.specs.declared.token.Lexed.{Lexed}
use Rattle.cdc_token.specs.declared.token.Token.{Token}
use Rattle.cdc_token.specs.declared.token.Token.TheVariants.{Name, Number, Text, Symbol}
use Rattle.cdc_token.specs.declared.token.Symbol.TheVariants as q
use Rattle.cdc_tree.specs.declared.tree.Named.{Named}
use Rattle.cdc_tree.specs.declared.form.Ending.TheVariants as e
use Rattle.cdc_parse.specs.declared.kind.Kind.{Kind}
use Rattle.cdc_parse.specs.declared.kind.Kind.TheVariants as k
use Rattle.cdc_parse.specs.declared.word.Word.{Word}
use Rattle.cdc_parse.specs.declared.word.Word.TheVariants as w
use Rattle.cdc_tree.specs.Options.{◌>>=◌, maybe}
use Rattle.cdc_parse.specs.Tokens.{at, mark, word, name, after, word_at, after_word, name_at, finished}
use Rattle.cdc_tree.specs.Plain.{Plain}
use Rattle.cdc_parse.specs.Kinds.{kind}
use Rattle.cdc_parse.specs.Reading.{Gets, more, separated, closed, read}
use Rattle.cdc_parse.specs.Written.{text, IsExpression, IsCondition}
use Rattle.cdc_tree.specs.Forms.{PSpot, PShown, PText, PValue, PForm, FProgram, FSubroutine, FEnd, FImplicitNone, FInteger, FParameter, FAssign, FIfThen, FElseIf, FElse, FEndIf, FLogicalIf, FDo, FEndDo, FDoall, FEndDoall, FCall, FPrint, FRead, PStatement}
use Rattle.cdc_parse.specs.Forms.{of_kind, whole, number_at, condition_at, in_parens, subscripted, place_at, without, program_at, subroutine_at, last_name, end_by, end_at, implicit_at, bound_at, declared_at, define_at, spot_at, parameter_at, items_at, integer_at, assign_at, guard_at, step_at, loop_at, do_at, privates_at, doall_at, call_at, valued, shown_as, shown_at, print_at, read_at, simple_by, simple_at, logical, if_at, else_if_at, else_at, alone, form_by, form_at, statement_at}
use Rattle.cdc_parse.specs.Stands.{Writes, Commas, Separated, Bracketed, Subscripted, InParens, IsNamed, LastName, IsBound, IsDeclared, IsDefine, IsSpot, IsShown, IsStep, IsLoop, Privates, IsGuard, IsGuardThen, IsEnd, IsSimple, Stands, StandsFor}
use Rattle.cdc_tree.proofs.Options.{some, some_is, bind_some, maybe_is}
use Rattle.cdc_parse.proofs.Begins.{after_is, word_at_is, after_word_is, name_at_is}
use Rattle.cdc_parse.proofs.Lists.{Front, IsSound, more_sound, separated_sound, closed_sound}
use Rattle.cdc_parse.proofs.Sound.{read_sound}

ends_is : {A : Type 0} (ts : List Lexed) (a f : A) → (finished ts >>= λ _. some a) ≡ Some f → (ts ≡ []) × (a ≡ f)
ends_is [] a f e = (refl, some_is a f e)
ends_is (t ∷ ts) a f e = absurd cc

-- the whole of the tokens
all_of : {A : Type 0} (item : Writes A) (ts : List Lexed) (x : A × List Lexed) (f : Front item ts x) → x.1 ≡ [] → ts ≡ f.tokens
all_of item ts x f e = f.parts ∙ ap (λ (z : List Lexed). f.tokens ++ z) e ∙ append-nil f.tokens

front_now : {A : Type 0} (item : Writes A) (ts : List Lexed) (a : A) (us : List Lexed) (x : A × List Lexed) → Front item ts (a, us) → some (a, us) ≡ Some x → Front item ts x
front_now item ts a us x made e = subst (λ (y : _ × List Lexed). Front item ts y) (some_is (a, us) x e) made

-- ---- items

name_sound : IsSound IsNamed name_at
name_sound ts x e = let a = name_at_is ts x.1 x.0 e in record { tokens = name x.0 ∷ []; wrote = (a.0, refl); parts = a.1 }

number_kind : (c : Kind) (x y : Plain × List Lexed) → of_kind k.Number x c ≡ Some y → (c ≡ k.Number) × (x ≡ y)
number_kind k.Number x y e = (refl, some_is x y e)
number_kind z x y e = absurd cc

truth_kind : (c : Kind) (x y : Plain × List Lexed) → of_kind k.Truth x c ≡ Some y → (c ≡ k.Truth) × (x ≡ y)
truth_kind k.Truth x y e = (refl, some_is x y e)
truth_kind z x y e = absurd cc

number_sound : IsSound IsExpression number_at
unfolding number_at whole
number_sound ts x e =
    let b = bind_some (read 64 6 ts) (λ y. of_kind k.Number y (kind y.0)) x e in
    let n = number_kind (kind b.0.0) b.0 x b.2 in
    let t = read_sound 64 6 ts b.0 b.1 in
    subst (λ (y : Plain × List Lexed). Front IsExpression ts y) n.1 (record {
      tokens = text t.as_written;
      wrote = record { as_written = t.as_written; fits = t.fits; meant_is = t.meant_is; tokens_are = refl; is_number = n.0 };
      parts = t.parts;
    })

condition_sound : IsSound IsCondition condition_at
unfolding condition_at whole
condition_sound ts x e =
    let b = bind_some (read 64 6 ts) (λ y. of_kind k.Truth y (kind y.0)) x e in
    let n = truth_kind (kind b.0.0) b.0 x b.2 in
    let t = read_sound 64 6 ts b.0 b.1 in
    subst (λ (y : Plain × List Lexed). Front IsCondition ts y) n.1 (record {
      tokens = text t.as_written;
      wrote = record { as_written = t.as_written; fits = t.fits; meant_is = t.meant_is; tokens_are = refl; is_truth = n.0 };
      parts = t.parts;
    })

-- a list in parentheses
bracketed_sound : {A : Type 0} (item : Writes A) (get : Gets A) → IsSound item get → (p : Place) (ts us : List Lexed) (x : List A × List Lexed) → ts ≡ mark p q.LeftParen ∷ us → closed (separated get) us ≡ Some x → Front (Bracketed item) ts x
bracketed_sound item get sound p ts us x h e =
    let c = closed_sound (Separated item) (separated get) (separated_sound item get sound) us x e in
    let c_wrote = c.wrote in
    record {
      tokens = mark p q.LeftParen ∷ (c_wrote.1 ++ (mark c_wrote.0 q.RightParen ∷ []));
      wrote = (p, c_wrote.0, c_wrote.1, c_wrote.2, refl);
      parts = h ∙ ap (λ (z : List Lexed). mark p q.LeftParen ∷ z) (c.parts ∙ ap (λ (z : List Lexed). z ++ x.1) c_wrote.3);
    }

subscripted_of : {A : Type 0} (item : Writes A) (all : List A) (ts : List Lexed) → Bracketed item all ts → Subscripted item all ts
subscripted_of item [] ts b = absurd b.3
subscripted_of item (a ∷ all) ts b = b

in_parens_of : {A : Type 0} (item : Writes A) (all : List A) (ts : List Lexed) → Bracketed item all ts → InParens item all ts
in_parens_of item [] ts b = absurd b.3
in_parens_of item (a ∷ all) ts b = b

subscripted_sound : {A : Type 0} (item : Writes A) (get : Gets A) → IsSound item get → IsSound (Subscripted item) (subscripted get)
subscripted_sound item get sound ts x e =
    elim (maybe_is (after q.LeftParen ts) (closed (separated get)) (some ([], ts)) (Some x) e) [
      | inl none ↦ front_now (Subscripted item) ts [] ts x (record { tokens = []; wrote = refl; parts = refl }) none.1
      | inr hit ↦
          let p = after_is q.LeftParen ts hit.0 hit.1 in
          let b = bracketed_sound item get sound p.0 ts hit.0 x p.1 hit.2 in
          record { tokens = b.tokens; wrote = subscripted_of item x.0 b.tokens b.wrote; parts = b.parts }
    ]

in_parens_sound : {A : Type 0} (item : Writes A) (get : Gets A) → IsSound item get → IsSound (InParens item) (in_parens get)
in_parens_sound item get sound ts x e =
    elim (maybe_is (after q.LeftParen ts) (λ us. maybe (after q.RightParen us) (λ vs. Some ([], vs)) (closed (separated get) us)) (some ([], ts)) (Some x) e) [
      | inl none ↦ front_now (InParens item) ts [] ts x (record { tokens = []; wrote = inl refl; parts = refl }) none.1
      | inr hit ↦
          let p = after_is q.LeftParen ts hit.0 hit.1 in
          elim (maybe_is (after q.RightParen hit.0) (λ vs. Some ([], vs)) (closed (separated get) hit.0) (Some x) hit.2) [
            | inl full ↦
                let b = bracketed_sound item get sound p.0 ts hit.0 x p.1 full.1 in
                record { tokens = b.tokens; wrote = in_parens_of item x.0 b.tokens b.wrote; parts = b.parts }
            | inr empty ↦
                let r = after_is q.RightParen hit.0 empty.0 empty.1 in
                front_now (InParens item) ts [] empty.0 x (record {
                  tokens = mark p.0 q.LeftParen ∷ (mark r.0 q.RightParen ∷ []);
                  wrote = inr (p.0, r.0, refl);
                  parts = p.1 ∙ ap (λ (z : List Lexed). mark p.0 q.LeftParen ∷ z) r.1;
                }) empty.2
          ]
    ]

bound_sound : IsSound IsBound bound_at
bound_sound ts x e =
    let a = bind_some (number_at ts) (λ y. maybe (after q.Colon y.1) (λ us. number_at us >>= λ z. Some ((Some y.0, z.0), z.1)) (Some ((None, y.0), y.1))) x e in
    let low = number_sound ts a.0 a.1 in
    elim (maybe_is (after q.Colon a.0.1) (λ us. number_at us >>= λ z. Some ((Some a.0.0, z.0), z.1)) (some ((None, a.0.0), a.0.1)) (Some x) a.2) [
      | inl none ↦ front_now IsBound ts (None, a.0.0) a.0.1 x (record { tokens = low.tokens; wrote = low.wrote; parts = low.parts }) none.1
      | inr hit ↦
          let p = after_is q.Colon a.0.1 hit.0 hit.1 in
          let b = bind_some (number_at hit.0) (λ z. Some ((Some a.0.0, z.0), z.1)) x hit.2 in
          let high = number_sound hit.0 b.0 b.1 in
          front_now IsBound ts (Some a.0.0, b.0.0) b.0.1 x (record {
            tokens = low.tokens ++ (mark p.0 q.Colon ∷ high.tokens);
            wrote = (low.tokens, p.0, high.tokens, low.wrote, high.wrote, refl);
            parts = low.parts ∙ ap (λ (z : List Lexed). low.tokens ++ z) (p.1 ∙ ap (λ (z : List Lexed). mark p.0 q.Colon ∷ z) high.parts) ∙ sym (append_assoc low.tokens (mark p.0 q.Colon ∷ high.tokens) b.0.1);
          }) b.2
    ]

-- a name and what follows it
after_name : {A : Type 0} (item : Writes A) (ts us : List Lexed) (n : Named) (x : A × List Lexed) (f : Front item us x) → ts ≡ name n ∷ us → ts ≡ (name n ∷ f.tokens) ++ x.1
after_name item ts us n x f e = e ∙ ap (λ (z : List Lexed). name n ∷ z) f.parts

declared_sound : IsSound IsDeclared declared_at
declared_sound ts x e =
    let n = bind_some (name_at ts) (λ n. subscripted bound_at n.1 >>= λ b. Some ((n.0, b.0), b.1)) x e in
    let b = bind_some (subscripted bound_at n.0.1) (λ b. Some ((n.0.0, b.0), b.1)) x n.2 in
    let a = name_at_is ts n.0.1 n.0.0 n.1 in
    let f = subscripted_sound IsBound bound_at bound_sound n.0.1 b.0 b.1 in
    front_now IsDeclared ts (n.0.0, b.0.0) b.0.1 x (record { tokens = name n.0.0 ∷ f.tokens; wrote = (f.tokens, a.0, f.wrote, refl); parts = after_name (Subscripted IsBound) ts n.0.1 n.0.0 b.0 f a.1 }) b.2

spot_sound : IsSound IsSpot spot_at
spot_sound ts x e =
    let n = bind_some (name_at ts) (λ n. subscripted number_at n.1 >>= λ b. Some ((n.0, b.0), b.1)) x e in
    let b = bind_some (subscripted number_at n.0.1) (λ b. Some ((n.0.0, b.0), b.1)) x n.2 in
    let a = name_at_is ts n.0.1 n.0.0 n.1 in
    let f = subscripted_sound IsExpression number_at number_sound n.0.1 b.0 b.1 in
    front_now IsSpot ts (n.0.0, b.0.0) b.0.1 x (record { tokens = name n.0.0 ∷ f.tokens; wrote = (f.tokens, a.0, f.wrote, refl); parts = after_name (Subscripted IsExpression) ts n.0.1 n.0.0 b.0 f a.1 }) b.2

define_sound : IsSound IsDefine define_at
define_sound ts x e =
    let n = bind_some (name_at ts) (λ n. after q.Assign n.1 >>= λ us. number_at us >>= λ v. Some ((n.0, v.0), v.1)) x e in
    let u = bind_some (after q.Assign n.0.1) (λ us. number_at us >>= λ v. Some ((n.0.0, v.0), v.1)) x n.2 in
    let b = bind_some (number_at u.0) (λ v. Some ((n.0.0, v.0), v.1)) x u.2 in
    let a = name_at_is ts n.0.1 n.0.0 n.1 in
    let p = after_is q.Assign n.0.1 u.0 u.1 in
    let f = number_sound u.0 b.0 b.1 in
    front_now IsDefine ts (n.0.0, b.0.0) b.0.1 x (record {
      tokens = name n.0.0 ∷ (mark p.0 q.Assign ∷ f.tokens);
      wrote = (p.0, f.tokens, a.0, f.wrote, refl);
      parts = a.1 ∙ ap (λ (z : List Lexed). name n.0.0 ∷ z) (p.1 ∙ ap (λ (z : List Lexed). mark p.0 q.Assign ∷ z) f.parts);
    }) b.2

valued_sound : (ts : List Lexed) (x : PShown × List Lexed) → valued ts ≡ Some x → Front IsShown ts x
valued_sound ts x e =
    let b = bind_some (number_at ts) (λ y. Some (PValue y.0, y.1)) x e in
    let f = number_sound ts b.0 b.1 in
    front_now IsShown ts (PValue b.0.0) b.0.1 x (record { tokens = f.tokens; wrote = f.wrote; parts = f.parts }) b.2

shown_sound : IsSound IsShown shown_at
shown_sound [] x e = absurd cc
shown_sound (t ∷ ts) x e = by_token t.token t.place ts x e
  where
    by_token : (c : Token) (p : Place) (ts : List Lexed) (x : PShown × List Lexed) → shown_as c ts (at p c ∷ ts) ≡ Some x → Front IsShown (at p c ∷ ts) x
    by_token (Text b) p ts x e = front_now IsShown (at p (Text b) ∷ ts) (PText b) ts x (record { tokens = at p (Text b) ∷ []; wrote = (p, refl); parts = refl }) e
    by_token (Name b) p ts x e = valued_sound (at p (Name b) ∷ ts) x e
    by_token (Number b) p ts x e = valued_sound (at p (Number b) ∷ ts) x e
    by_token (Symbol b) p ts x e = valued_sound (at p (Symbol b) ∷ ts) x e

guard_sound : IsSound IsGuard guard_at
guard_sound ts x e =
    let u = bind_some (after q.LeftParen ts) (λ us. closed condition_at us) x e in
    let p = after_is q.LeftParen ts u.0 u.1 in
    let c = closed_sound IsCondition condition_at condition_sound u.0 x u.2 in
    let c_wrote = c.wrote in
    record {
      tokens = mark p.0 q.LeftParen ∷ (c_wrote.1 ++ (mark c_wrote.0 q.RightParen ∷ []));
      wrote = (p.0, c_wrote.1, c_wrote.0, c_wrote.2, refl);
      parts = p.1 ∙ ap (λ (z : List Lexed). mark p.0 q.LeftParen ∷ z) (c.parts ∙ ap (λ (z : List Lexed). z ++ x.1) c_wrote.3);
    }

step_sound : IsSound IsStep step_at
step_sound ts x e =
    elim (maybe_is (after q.Comma ts) (λ us. number_at us >>= λ c. Some (Some c.0, c.1)) (some (None, ts)) (Some x) e) [
      | inl none ↦ front_now IsStep ts None ts x (record { tokens = []; wrote = refl; parts = refl }) none.1
      | inr hit ↦
          let p = after_is q.Comma ts hit.0 hit.1 in
          let b = bind_some (number_at hit.0) (λ c. Some (Some c.0, c.1)) x hit.2 in
          let f = number_sound hit.0 b.0 b.1 in
          front_now IsStep ts (Some b.0.0) b.0.1 x (record { tokens = mark p.0 q.Comma ∷ f.tokens; wrote = (p.0, f.tokens, f.wrote, refl); parts = p.1 ∙ ap (λ (z : List Lexed). mark p.0 q.Comma ∷ z) f.parts }) b.2
    ]

loop_parts : (n : Named) (p r : Place) (us vs xs rest : List Lexed) → name n ∷ (mark p q.Assign ∷ (us ++ (mark r q.Comma ∷ (vs ++ (xs ++ rest))))) ≡ (name n ∷ (mark p q.Assign ∷ (us ++ (mark r q.Comma ∷ (vs ++ xs))))) ++ rest
loop_parts n p r us vs xs rest =
    ap (λ (z : List Lexed). name n ∷ (mark p q.Assign ∷ z))
    (ap (λ (z : List Lexed). us ++ (mark r q.Comma ∷ z)) (sym (append_assoc vs xs rest)) ∙ sym (append_assoc us (mark r q.Comma ∷ (vs ++ xs)) rest))

loop_sound : IsSound IsLoop loop_at
loop_sound ts x e =
    let n = bind_some (name_at ts) (λ n. after q.Assign n.1 >>= λ us. number_at us >>= λ a. after q.Comma a.1 >>= λ vs. number_at vs >>= λ b. step_at b.1 >>= λ c. Some ((n.0, a.0, b.0, c.0), c.1)) x e in
    let u = bind_some (after q.Assign n.0.1) (λ us. number_at us >>= λ a. after q.Comma a.1 >>= λ vs. number_at vs >>= λ b. step_at b.1 >>= λ c. Some ((n.0.0, a.0, b.0, c.0), c.1)) x n.2 in
    let a = bind_some (number_at u.0) (λ a. after q.Comma a.1 >>= λ vs. number_at vs >>= λ b. step_at b.1 >>= λ c. Some ((n.0.0, a.0, b.0, c.0), c.1)) x u.2 in
    let v = bind_some (after q.Comma a.0.1) (λ vs. number_at vs >>= λ b. step_at b.1 >>= λ c. Some ((n.0.0, a.0.0, b.0, c.0), c.1)) x a.2 in
    let b = bind_some (number_at v.0) (λ b. step_at b.1 >>= λ c. Some ((n.0.0, a.0.0, b.0, c.0), c.1)) x v.2 in
    let c = bind_some (step_at b.0.1) (λ c. Some ((n.0.0, a.0.0, b.0.0, c.0), c.1)) x b.2 in
    let named_so = name_at_is ts n.0.1 n.0.0 n.1 in
    let p = after_is q.Assign n.0.1 u.0 u.1 in
    let from = number_sound u.0 a.0 a.1 in
    let r = after_is q.Comma a.0.1 v.0 v.1 in
    let to = number_sound v.0 b.0 b.1 in
    let by = step_sound b.0.1 c.0 c.1 in
    let tail : v.0 ≡ to.tokens ++ (by.tokens ++ c.0.1) = to.parts ∙ ap (λ (z : List Lexed). to.tokens ++ z) by.parts in
    let middle : u.0 ≡ from.tokens ++ (mark r.0 q.Comma ∷ (to.tokens ++ (by.tokens ++ c.0.1))) = from.parts ∙ ap (λ (z : List Lexed). from.tokens ++ z) (r.1 ∙ ap (λ (z : List Lexed). mark r.0 q.Comma ∷ z) tail) in
    front_now IsLoop ts (n.0.0, a.0.0, b.0.0, c.0.0) c.0.1 x (record {
      tokens = name n.0.0 ∷ (mark p.0 q.Assign ∷ (from.tokens ++ (mark r.0 q.Comma ∷ (to.tokens ++ by.tokens))));
      wrote = (p.0, from.tokens, r.0, to.tokens, by.tokens, named_so.0, from.wrote, to.wrote, by.wrote, refl);
      parts = named_so.1 ∙ ap (λ (z : List Lexed). name n.0.0 ∷ z) (p.1 ∙ ap (λ (z : List Lexed). mark p.0 q.Assign ∷ z) middle) ∙ loop_parts n.0.0 p.0 r.0 from.tokens to.tokens by.tokens c.0.1;
    }) c.2

-- ---- statements

stands_now : (ts : List Lexed) (made f : PForm) → made ≡ f → Stands made ts → Stands f ts
stands_now ts made f e h = subst (λ (g : PForm). Stands g ts) e h

simple_now : (ts : List Lexed) (made f : PForm) → made ≡ f → IsSimple made ts → IsSimple f ts
simple_now ts made f e h = subst (λ (g : PForm). IsSimple g ts) e h

alone_sound : (made : PForm) (p : Place) (x : Word) (ts : List Lexed) (f : PForm) → ((us : List Lexed) → us ≡ word p x ∷ [] → Stands made us) → alone made ts ≡ Some f → Stands f (word p x ∷ ts)
alone_sound made p x ts f h e =
    let z = ends_is ts made f e in
    stands_now (word p x ∷ ts) made f z.1 (h (word p x ∷ ts) (ap (λ (y : List Lexed). word p x ∷ y) z.0))

program_sound : (p : Place) (ts : List Lexed) (f : PForm) → program_at ts ≡ Some f → Stands f (word p w.Program ∷ ts)
program_sound p ts f e =
    let n = bind_some (name_at ts) (λ n. finished n.1 >>= λ _. Some (FProgram n.0)) f e in
    let z = ends_is n.0.1 (FProgram n.0.0) f n.2 in
    let a = name_at_is ts n.0.1 n.0.0 n.1 in
    stands_now (word p w.Program ∷ ts) (FProgram n.0.0) f z.1 (p, a.0, ap (λ (y : List Lexed). word p w.Program ∷ y) (a.1 ∙ ap (λ (y : List Lexed). name n.0.0 ∷ y) z.0))

subroutine_sound : (p : Place) (ts : List Lexed) (f : PForm) → subroutine_at ts ≡ Some f → Stands f (word p w.Subroutine ∷ ts)
subroutine_sound p ts f e =
    let n = bind_some (name_at ts) (λ n. in_parens name_at n.1 >>= λ d. finished d.1 >>= λ _. Some (FSubroutine n.0 d.0)) f e in
    let d = bind_some (in_parens name_at n.0.1) (λ d. finished d.1 >>= λ _. Some (FSubroutine n.0.0 d.0)) f n.2 in
    let z = ends_is d.0.1 (FSubroutine n.0.0 d.0.0) f d.2 in
    let a = name_at_is ts n.0.1 n.0.0 n.1 in
    let b = in_parens_sound IsNamed name_at name_sound n.0.1 d.0 d.1 in
    stands_now (word p w.Subroutine ∷ ts) (FSubroutine n.0.0 d.0.0) f z.1
    (p, b.tokens, a.0, b.wrote, ap (λ (y : List Lexed). word p w.Subroutine ∷ y) (a.1 ∙ ap (λ (y : List Lexed). name n.0.0 ∷ y) (all_of (InParens IsNamed) n.0.1 d.0 b z.0)))

last_sound : (ts : List Lexed) (n : Option Named) → last_name ts ≡ Some n → LastName n ts
last_sound [] n e = subst (λ (m : Option Named). LastName m []) (some_is None n e) refl
last_sound (t ∷ ts) n e =
    let b = bind_some (name_at (t ∷ ts)) (λ n. finished n.1 >>= λ _. Some (Some n.0)) n e in
    let z = ends_is b.0.1 (some b.0.0) n b.2 in
    let a = name_at_is (t ∷ ts) b.0.1 b.0.0 b.1 in
    subst (λ (m : Option Named). LastName m (t ∷ ts)) z.1 (a.0, a.1 ∙ ap (λ (y : List Lexed). name b.0.0 ∷ y) z.0)

end_two : (second joined : Word) (made : PForm) (p r : Place) (ts : List Lexed) (f : PForm) → ((us : List Lexed) → IsEnd second joined us → Stands made us) → (finished ts >>= λ _. some made) ≡ Some f → Stands f (word p w.End ∷ (word r second ∷ ts))
end_two second joined made p r ts f h e =
    let z = ends_is ts made f e in
    stands_now _ made f z.1 (h _ (inl (p, r, ap (λ (y : List Lexed). word p w.End ∷ (word r second ∷ y)) z.0)))

end_word_sound : (x : Word) (p r : Place) (ts : List Lexed) (f : PForm) → end_by x ts ≡ Some f → Stands f (word p w.End ∷ (word r x ∷ ts))
end_word_sound w.Program p r ts f h =
    let n = bind_some (last_name ts) (λ n. Some (FEnd (e.Program n))) f h in
    stands_now _ (FEnd (e.Program n.0)) f (some_is (FEnd (e.Program n.0)) f n.2) (p, word r w.Program ∷ ts, (r, ts, last_sound ts n.0 n.1, refl), refl)
end_word_sound w.Subroutine p r ts f h =
    let n = bind_some (last_name ts) (λ n. Some (FEnd (e.Subroutine n))) f h in
    stands_now _ (FEnd (e.Subroutine n.0)) f (some_is (FEnd (e.Subroutine n.0)) f n.2) (p, word r w.Subroutine ∷ ts, (r, ts, last_sound ts n.0 n.1, refl), refl)
end_word_sound w.If p r ts f h = end_two w.If w.EndIf FEndIf p r ts f (λ us i. i) h
end_word_sound w.Do p r ts f h = end_two w.Do w.EndDo FEndDo p r ts f (λ us i. i) h
end_word_sound w.Doall p r ts f h = end_two w.Doall w.EndDoall FEndDoall p r ts f (λ us i. i) h
end_word_sound x p r ts f h = absurd cc

end_sound : (p : Place) (ts : List Lexed) (f : PForm) → end_at ts ≡ Some f → Stands f (word p w.End ∷ ts)
end_sound p ts f h =
    elim (maybe_is (word_at ts) (λ x. end_by x.0 x.1) (finished ts >>= λ _. some (FEnd e.Plain)) (Some f) h) [
      | inl none ↦
          let z = ends_is ts (FEnd e.Plain) f none.1 in
          stands_now (word p w.End ∷ ts) (FEnd e.Plain) f z.1 (p, ts, z.0, refl)
      | inr hit ↦
          let a = word_at_is ts hit.0.1 hit.0.0 hit.1 in
          subst (λ (y : List Lexed). Stands f (word p w.End ∷ y)) (sym a.1) (end_word_sound hit.0.0 p a.0 hit.0.1 f hit.2)
    ]

implicit_sound : (p : Place) (ts : List Lexed) (f : PForm) → implicit_at ts ≡ Some f → Stands f (word p w.Implicit ∷ ts)
implicit_sound p ts f h =
    let u = bind_some (after_word w.Nothing ts) (λ us. finished us >>= λ _. Some FImplicitNone) f h in
    let a = after_word_is w.Nothing ts u.0 u.1 in
    let z = ends_is u.0 FImplicitNone f u.2 in
    stands_now (word p w.Implicit ∷ ts) FImplicitNone f z.1 (p, a.0, ap (λ (y : List Lexed). word p w.Implicit ∷ y) (a.1 ∙ ap (λ (y : List Lexed). word a.0 w.Nothing ∷ y) z.0))

parameter_sound : (p r : Place) (ts : List Lexed) (f : PForm) → parameter_at ts ≡ Some f → Stands f (word p w.Integer ∷ (mark r q.Comma ∷ ts))
parameter_sound p r ts f h =
    let u = bind_some (after_word w.Parameter ts) (λ us. after q.DoubleColon us >>= λ vs. separated define_at vs >>= λ x. finished x.1 >>= λ _. Some (FParameter x.0)) f h in
    let v = bind_some (after q.DoubleColon u.0) (λ vs. separated define_at vs >>= λ x. finished x.1 >>= λ _. Some (FParameter x.0)) f u.2 in
    let d = bind_some (separated define_at v.0) (λ x. finished x.1 >>= λ _. Some (FParameter x.0)) f v.2 in
    let z = ends_is d.0.1 (FParameter d.0.0) f d.2 in
    let a = after_word_is w.Parameter ts u.0 u.1 in
    let c = after_is q.DoubleColon u.0 v.0 v.1 in
    let b = separated_sound IsDefine define_at define_sound v.0 d.0 d.1 in
    stands_now (word p w.Integer ∷ (mark r q.Comma ∷ ts)) (FParameter d.0.0) f z.1
    (p, r, a.0, c.0, b.tokens, b.wrote, ap (λ (y : List Lexed). word p w.Integer ∷ (mark r q.Comma ∷ y)) (a.1 ∙ ap (λ (y : List Lexed). word a.0 w.Parameter ∷ y) (c.1 ∙ ap (λ (y : List Lexed). mark c.0 q.DoubleColon ∷ y) (all_of (Separated IsDefine) v.0 d.0 b z.0))))

without_is : (ts : List Lexed) → (without q.DoubleColon ts ≡ ts) ⊎ ((p : Place) × (ts ≡ mark p q.DoubleColon ∷ without q.DoubleColon ts))
without_is ts =
    elim (maybe_is (after q.DoubleColon ts) (λ us. us) ts (without q.DoubleColon ts) refl) [
      | inl none ↦ inl (sym none.1)
      | inr hit ↦
          let a = after_is q.DoubleColon ts hit.0 hit.1 in
          inr (a.0, a.1 ∙ ap (λ (y : List Lexed). mark a.0 q.DoubleColon ∷ y) hit.2)
    ]

integer_sound : (p : Place) (ts : List Lexed) (f : PForm) → integer_at ts ≡ Some f → Stands f (word p w.Integer ∷ ts)
integer_sound p ts f h =
    elim (maybe_is (after q.Comma ts) parameter_at (items_at (without q.DoubleColon ts)) (Some f) h) [
      | inl plain_items ↦
          let us = without q.DoubleColon ts in
          let d = bind_some (separated declared_at us) (λ x. finished x.1 >>= λ _. Some (FInteger x.0)) f plain_items.1 in
          let z = ends_is d.0.1 (FInteger d.0.0) f d.2 in
          let b = separated_sound IsDeclared declared_at declared_sound us d.0 d.1 in
          let whole_is : us ≡ b.tokens = all_of (Separated IsDeclared) us d.0 b z.0 in
          stands_now (word p w.Integer ∷ ts) (FInteger d.0.0) f z.1 (
            p,
            b.tokens,
            b.wrote,
            elim (without_is ts) [
              | inl same_tokens ↦ inl (ap (λ (y : List Lexed). word p w.Integer ∷ y) (sym same_tokens ∙ whole_is))
              | inr colons ↦ inr (colons.0, ap (λ (y : List Lexed). word p w.Integer ∷ y) (colons.1 ∙ ap (λ (y : List Lexed). mark colons.0 q.DoubleColon ∷ y) whole_is))
            ],
          )
      | inr hit ↦
          let a = after_is q.Comma ts hit.0 hit.1 in
          subst (λ (y : List Lexed). Stands f (word p w.Integer ∷ y)) (sym a.1) (parameter_sound p a.0 hit.0 f hit.2)
    ]

assign_sound : (ts : List Lexed) (f : PForm) → assign_at ts ≡ Some f → IsSimple f ts
assign_sound ts f h =
    let s = bind_some (spot_at ts) (λ s. after q.Assign s.1 >>= λ us. number_at us >>= λ x. finished x.1 >>= λ _. Some (FAssign s.0 x.0)) f h in
    let u = bind_some (after q.Assign s.0.1) (λ us. number_at us >>= λ x. finished x.1 >>= λ _. Some (FAssign s.0.0 x.0)) f s.2 in
    let v = bind_some (number_at u.0) (λ x. finished x.1 >>= λ _. Some (FAssign s.0.0 x.0)) f u.2 in
    let z = ends_is v.0.1 (FAssign s.0.0 v.0.0) f v.2 in
    let target = spot_sound ts s.0 s.1 in
    let a = after_is q.Assign s.0.1 u.0 u.1 in
    let value = number_sound u.0 v.0 v.1 in
    simple_now ts (FAssign s.0.0 v.0.0) f z.1
    (target.tokens, a.0, value.tokens, target.wrote, value.wrote, target.parts ∙ ap (λ (y : List Lexed). target.tokens ++ y) (a.1 ∙ ap (λ (y : List Lexed). mark a.0 q.Assign ∷ y) (all_of IsExpression u.0 v.0 value z.0)))

call_sound : (p : Place) (ts : List Lexed) (f : PForm) → call_at ts ≡ Some f → IsSimple f (word p w.Call ∷ ts)
call_sound p ts f h =
    let n = bind_some (name_at ts) (λ n. in_parens number_at n.1 >>= λ d. finished d.1 >>= λ _. Some (FCall n.0 d.0)) f h in
    let d = bind_some (in_parens number_at n.0.1) (λ d. finished d.1 >>= λ _. Some (FCall n.0.0 d.0)) f n.2 in
    let z = ends_is d.0.1 (FCall n.0.0 d.0.0) f d.2 in
    let a = name_at_is ts n.0.1 n.0.0 n.1 in
    let b = in_parens_sound IsExpression number_at number_sound n.0.1 d.0 d.1 in
    simple_now (word p w.Call ∷ ts) (FCall n.0.0 d.0.0) f z.1
    (p, b.tokens, a.0, b.wrote, ap (λ (y : List Lexed). word p w.Call ∷ y) (a.1 ∙ ap (λ (y : List Lexed). name n.0.0 ∷ y) (all_of (InParens IsExpression) n.0.1 d.0 b z.0)))

print_sound : (p : Place) (ts : List Lexed) (f : PForm) → print_at ts ≡ Some f → IsSimple f (word p w.Print ∷ ts)
print_sound p ts f h =
    let u = bind_some (after q.Star ts) (λ us. more shown_at (length us) [] us >>= λ x. finished x.1 >>= λ _. Some (FPrint x.0)) f h in
    let d = bind_some (more shown_at (length u.0) [] u.0) (λ x. finished x.1 >>= λ _. Some (FPrint x.0)) f u.2 in
    let z = ends_is d.0.1 (FPrint d.0.0) f d.2 in
    let a = after_is q.Star ts u.0 u.1 in
    let b = more_sound IsShown shown_at shown_sound (length u.0) [] u.0 d.0 d.1 in
    simple_now (word p w.Print ∷ ts) (FPrint d.0.0) f z.1 (
      p,
      a.0,
      b.tokens,
      subst (λ (l : List PShown). Commas IsShown l b.tokens) b.items_are b.wrote,
      ap (λ (y : List Lexed). word p w.Print ∷ y) (a.1 ∙ ap (λ (y : List Lexed). mark a.0 q.Star ∷ y) (b.parts ∙ ap (λ (y : List Lexed). b.tokens ++ y) z.0 ∙ append-nil b.tokens)),
    )

read_stands : (p : Place) (ts : List Lexed) (f : PForm) → read_at ts ≡ Some f → IsSimple f (word p w.Read ∷ ts)
read_stands p ts f h =
    let u = bind_some (after q.Star ts) (λ us. more spot_at (length us) [] us >>= λ x. finished x.1 >>= λ _. Some (FRead x.0)) f h in
    let d = bind_some (more spot_at (length u.0) [] u.0) (λ x. finished x.1 >>= λ _. Some (FRead x.0)) f u.2 in
    let z = ends_is d.0.1 (FRead d.0.0) f d.2 in
    let a = after_is q.Star ts u.0 u.1 in
    let b = more_sound IsSpot spot_at spot_sound (length u.0) [] u.0 d.0 d.1 in
    simple_now (word p w.Read ∷ ts) (FRead d.0.0) f z.1 (
      p,
      a.0,
      b.tokens,
      subst (λ (l : List PSpot). Commas IsSpot l b.tokens) b.items_are b.wrote,
      ap (λ (y : List Lexed). word p w.Read ∷ y) (a.1 ∙ ap (λ (y : List Lexed). mark a.0 q.Star ∷ y) (b.parts ∙ ap (λ (y : List Lexed). b.tokens ++ y) z.0 ∙ append-nil b.tokens)),
    )

simple_word_sound : (x : Word) (p : Place) (ts : List Lexed) (f : PForm) → simple_by x ts ≡ Some f → IsSimple f (word p x ∷ ts)
simple_word_sound w.Call p ts f h = call_sound p ts f h
simple_word_sound w.Print p ts f h = print_sound p ts f h
simple_word_sound w.Read p ts f h = read_stands p ts f h
simple_word_sound x p ts f h = absurd cc

pub simple_sound : (ts : List Lexed) (f : PForm) → simple_at ts ≡ Some f → IsSimple f ts
unfolding simple_at
simple_sound ts f h =
    elim (maybe_is (word_at ts) (λ x. simple_by x.0 x.1) (assign_at ts) (Some f) h) [
      | inl none ↦ assign_sound ts f none.1
      | inr hit ↦
          let a = word_at_is ts hit.0.1 hit.0.0 hit.1 in
          subst (λ (y : List Lexed). IsSimple f y) (sym a.1) (simple_word_sound hit.0.0 a.0 hit.0.1 f hit.2)
    ]

pub simple_stands : (f : PForm) (ts : List Lexed) → IsSimple f ts → Stands f ts
simple_stands (FAssign s v) ts h = h
simple_stands (FCall n a) ts h = h
simple_stands (FPrint i) ts h = h
simple_stands (FRead i) ts h = h
simple_stands x ts h = absurd h

-- a condition in parentheses, and THEN
then_sound : (ts : List Lexed) (c : Plain × List Lexed) (us : List Lexed) → Front IsGuard ts c → after_word w.Then c.1 ≡ Some us → us ≡ [] → IsGuardThen c.0 ts
then_sound ts c us g h z =
    let a = after_word_is w.Then c.1 us h in
    (g.tokens, a.0, g.wrote, g.parts ∙ ap (λ (y : List Lexed). g.tokens ++ y) (a.1 ∙ ap (λ (y : List Lexed). word a.0 w.Then ∷ y) z))

logical_sound : (p : Place) (ts : List Lexed) (c : Plain × List Lexed) (f : PForm) → Front IsGuard ts c → logical c.0 c.1 ≡ Some f → Stands f (word p w.If ∷ ts)
logical_sound p ts c f g h =
    let pl = bind_some (place_at c.1) (λ p. simple_at c.1 >>= λ f. Some (FLogicalIf c.0 p f)) f h in
    let s = bind_some (simple_at c.1) (λ f. Some (FLogicalIf c.0 pl.0 f)) f pl.2 in
    stands_now (word p w.If ∷ ts) (FLogicalIf c.0 pl.0 s.0) f (some_is (FLogicalIf c.0 pl.0 s.0) f s.2)
    (p, g.tokens, c.1, g.wrote, simple_sound c.1 s.0 s.1, pl.1, ap (λ (y : List Lexed). word p w.If ∷ y) g.parts)

if_sound : (p : Place) (ts : List Lexed) (f : PForm) → if_at ts ≡ Some f → Stands f (word p w.If ∷ ts)
if_sound p ts f h =
    let c = bind_some (guard_at ts) (λ c. maybe (after_word w.Then c.1) (λ us. finished us >>= λ _. Some (FIfThen c.0)) (logical c.0 c.1)) f h in
    let g = guard_sound ts c.0 c.1 in
    elim (maybe_is (after_word w.Then c.0.1) (λ us. finished us >>= λ _. Some (FIfThen c.0.0)) (logical c.0.0 c.0.1) (Some f) c.2) [
      | inl none ↦ logical_sound p ts c.0 f g none.1
      | inr hit ↦
          let z = ends_is hit.0 (FIfThen c.0.0) f hit.2 in
          stands_now (word p w.If ∷ ts) (FIfThen c.0.0) f z.1 (p, ts, then_sound ts c.0 hit.0 g hit.1 z.0, refl)
    ]

record IsElseIf (ts : List Lexed) (f : PForm) : Type 0 where
  condition : Plain
  wrote : IsGuardThen condition ts
  is : FElseIf condition ≡ f

else_if_sound : (ts : List Lexed) (f : PForm) → else_if_at ts ≡ Some f → IsElseIf ts f
else_if_sound ts f h =
    let c = bind_some (guard_at ts) (λ c. after_word w.Then c.1 >>= λ us. finished us >>= λ _. Some (FElseIf c.0)) f h in
    let u = bind_some (after_word w.Then c.0.1) (λ us. finished us >>= λ _. Some (FElseIf c.0.0)) f c.2 in
    let z = ends_is u.0 (FElseIf c.0.0) f u.2 in
    record { condition = c.0.0; wrote = then_sound ts c.0 u.0 (guard_sound ts c.0 c.1) u.1 z.0; is = z.1 }

else_sound : (p : Place) (ts : List Lexed) (f : PForm) → else_at ts ≡ Some f → Stands f (word p w.Else ∷ ts)
else_sound p ts f h =
    elim (maybe_is (after_word w.If ts) else_if_at (finished ts >>= λ _. some FElse) (Some f) h) [
      | inl none ↦
          let z = ends_is ts FElse f none.1 in
          stands_now (word p w.Else ∷ ts) FElse f z.1 (p, ap (λ (y : List Lexed). word p w.Else ∷ y) z.0)
      | inr hit ↦
          let a = after_word_is w.If ts hit.0 hit.1 in
          let x = else_if_sound hit.0 f hit.2 in
          stands_now (word p w.Else ∷ ts) (FElseIf x.condition) f x.is (p, hit.0, x.wrote, inr (a.0, ap (λ (y : List Lexed). word p w.Else ∷ y) a.1))
    ]

do_sound : (p : Place) (ts : List Lexed) (f : PForm) → do_at ts ≡ Some f → Stands f (word p w.Do ∷ ts)
do_sound p ts f h =
    let l = bind_some (loop_at ts) (λ l. finished l.1 >>= λ _. Some (FDo l.0)) f h in
    let z = ends_is l.0.1 (FDo l.0.0) f l.2 in
    let a = loop_sound ts l.0 l.1 in
    stands_now (word p w.Do ∷ ts) (FDo l.0.0) f z.1 (p, a.tokens, a.wrote, ap (λ (y : List Lexed). word p w.Do ∷ y) (all_of IsLoop ts l.0 a z.0))

privates_of : (names : List Named) (ts us : List Lexed) (p : Place) → Bracketed IsNamed names us → ts ≡ word p w.Private ∷ us → Privates names ts
privates_of [] ts us p b e = absurd b.3
privates_of (n ∷ names) ts us p b e = (p, us, b, e)

privates_sound : (ts : List Lexed) (names : List Named) → privates_at ts ≡ Some names → Privates names ts
privates_sound ts names h =
    elim (maybe_is (after_word w.Private ts) (λ us. after q.LeftParen us >>= λ vs. closed (separated name_at) vs >>= λ x. finished x.1 >>= λ _. Some x.0) (finished ts >>= λ _. some []) (Some names) h) [
      | inl none ↦
          let z = ends_is ts [] names none.1 in
          subst (λ (l : List Named). Privates l ts) z.1 z.0
      | inr hit ↦
          let a = after_word_is w.Private ts hit.0 hit.1 in
          let v = bind_some (after q.LeftParen hit.0) (λ vs. closed (separated name_at) vs >>= λ x. finished x.1 >>= λ _. Some x.0) names hit.2 in
          let x = bind_some (closed (separated name_at) v.0) (λ x. finished x.1 >>= λ _. Some x.0) names v.2 in
          let z = ends_is x.0.1 x.0.0 names x.2 in
          let o = after_is q.LeftParen hit.0 v.0 v.1 in
          let b = bracketed_sound IsNamed name_at name_sound o.0 hit.0 v.0 x.0 o.1 x.1 in
          let e2 : ts ≡ word a.0 w.Private ∷ b.tokens = a.1 ∙ ap (λ (y : List Lexed). word a.0 w.Private ∷ y) (all_of (Bracketed IsNamed) hit.0 x.0 b z.0) in
          subst (λ (l : List Named). Privates l ts) z.1 (privates_of x.0.0 ts b.tokens a.0 b.wrote e2)
    ]

doall_sound : (p : Place) (ts : List Lexed) (f : PForm) → doall_at ts ≡ Some f → Stands f (word p w.Doall ∷ ts)
doall_sound p ts f h =
    let l = bind_some (loop_at ts) (λ l. privates_at l.1 >>= λ p. Some (FDoall l.0 p)) f h in
    let r = bind_some (privates_at l.0.1) (λ p. Some (FDoall l.0.0 p)) f l.2 in
    let a = loop_sound ts l.0 l.1 in
    stands_now (word p w.Doall ∷ ts) (FDoall l.0.0 r.0) f (some_is (FDoall l.0.0 r.0) f r.2) (p, a.tokens, l.0.1, a.wrote, privates_sound l.0.1 r.0 r.1, ap (λ (y : List Lexed). word p w.Doall ∷ y) a.parts)

word_sound : (x : Word) (p : Place) (ts : List Lexed) (f : PForm) → form_by x ts (word p x ∷ ts) ≡ Some f → Stands f (word p x ∷ ts)
word_sound w.Program p ts f h = program_sound p ts f h
word_sound w.Subroutine p ts f h = subroutine_sound p ts f h
word_sound w.End p ts f h = end_sound p ts f h
word_sound w.EndDo p ts f h = alone_sound FEndDo p w.EndDo ts f (λ us i. inr (p, i)) h
word_sound w.EndIf p ts f h = alone_sound FEndIf p w.EndIf ts f (λ us i. inr (p, i)) h
word_sound w.EndDoall p ts f h = alone_sound FEndDoall p w.EndDoall ts f (λ us i. inr (p, i)) h
word_sound w.Integer p ts f h = integer_sound p ts f h
word_sound w.Implicit p ts f h = implicit_sound p ts f h
word_sound w.Do p ts f h = do_sound p ts f h
word_sound w.Doall p ts f h = doall_sound p ts f h
word_sound w.If p ts f h = if_sound p ts f h
word_sound w.Else p ts f h = else_sound p ts f h
word_sound w.ElseIf p ts f h =
    let x = else_if_sound ts f h in
    stands_now (word p w.ElseIf ∷ ts) (FElseIf x.condition) f x.is (p, ts, x.wrote, inl refl)
word_sound x p ts f h = simple_stands f (word p x ∷ ts) (simple_sound (word p x ∷ ts) f h)

form_sound : (ts : List Lexed) (f : PForm) → form_at ts ≡ Some f → Stands f ts
unfolding form_at
form_sound ts f h =
    elim (maybe_is (word_at ts) (λ x. form_by x.0 x.1 ts) (simple_at ts) (Some f) h) [
      | inl none ↦ simple_stands f ts (simple_sound ts f none.1)
      | inr hit ↦
          let a = word_at_is ts hit.0.1 hit.0.0 hit.1 in
          let e2 : form_by hit.0.0 hit.0.1 (word a.0 hit.0.0 ∷ hit.0.1) ≡ Some f = ap (λ (y : List Lexed). form_by hit.0.0 hit.0.1 y) (sym a.1) ∙ hit.2 in
          subst (λ (y : List Lexed). Stands f y) (sym a.1) (word_sound hit.0.0 a.0 hit.0.1 f e2)
    ]

abbrev pub placed : Place → PForm → PStatement
placed p f = record { place = p; form = f }

-- what is read as a statement stands for the tokens
pub statement_sound : (ts : List Lexed) (s : PStatement) → statement_at ts ≡ Some s → StandsFor s ts
statement_sound ts s h =
    let p = bind_some (place_at ts) (λ p. form_at ts >>= λ f. some (placed p f)) s h in
    let f = bind_some (form_at ts) (λ f. some (placed p.0 f)) s p.2 in
    subst (λ (y : PStatement). StandsFor y ts) (some_is (placed p.0 f.0) s f.2) (form_sound ts f.0 f.1, p.1)
