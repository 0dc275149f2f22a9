-- A header, line by line.
use Rattle.std.proofs.Common.{◌≡◌, ℕ, ◌<◌, true, List, [], ◌∷◌, ◌++◌, length, Some, refl, sym, ◌∙◌, subst, arith}
use Rattle.std.specs.Int.{IsPowerOfTwo}
use Rattle.std.proofs.lemmas.Option.{same_Some}
use Rattle.cdc_sched.specs.declared.fit.Scheme.{Scheme}
use Rattle.cdc_sched.specs.declared.header.Geometry.{Geometry}
use Rattle.cdc_sched.specs.declared.header.Header.{Header}
use Rattle.cdc_sched.specs.declared.header.SchemeName.TheVariants.{Direct}
use Rattle.cdc_sched.specs.declared.header.TailKind.{TailKind}
use Rattle.cdc_sched.specs.declared.header.TailKind.TheVariants.{None as NoTail}
use Rattle.cdc_sched.specs.declared.kept.Kept.{Kept}
use Rattle.cdc_sched.specs.Built.{is_built}
use Rattle.cdc_sched.specs.Fits.{CanSay, CanSayCache, SaysScheme, SaysProcs, SaysCache, SaysBound}
use Rattle.cdc_sched.specs.HeaderLines.{version_words, events_words, tail_of}
use Rattle.cdc_sched.specs.Headers.{places, SayAll, IsBadHeader}
use Rattle.cdc_sched.specs.Headers.Place.{Version, Scheme as SchemePlace, Procs, Bound, Tail, Events}
use Rattle.cdc_sched.specs.Kept.{IsNextKept, HasNoKept}
use Rattle.cdc_sched.specs.Limits.{IsGeometry, IsHeader}
use Rattle.cdc_sched.specs.Lines.{read_words}
use Rattle.cdc_sched.proofs.Fronts.{Before, bad_line, no_line}

-- the lines so far are the first ones of a header
pub record Fronted (said : List (List (List ℕ))) : Type 0 where
  pub header : Header
  pub limits : IsHeader header
  pub built : is_built header.scheme ≡ true
  pub says : SayAll places header said
  pub short : length said < 7

pub missing : {bytes : List ℕ} {said : List (List (List ℕ))} {rest : List ℕ} {number after : ℕ} → Before bytes said rest number → Fronted said → HasNoKept rest number after → IsBadHeader bytes after
missing b f k = no_line b k f.header f.limits f.built f.says f.short

-- no header has this line after those
pub record Unfit (said : List (List (List ℕ))) (words : List (List ℕ)) : Type 0 where
  pub none : (h : Header) → IsHeader h → is_built h.scheme ≡ true → SayAll places h (said ++ words ∷ []) → ⊥

pub unfit : {bytes : List ℕ} {said : List (List (List ℕ))} {rest : List ℕ} {number n : ℕ} → Before bytes said rest number → {kept : Kept} → IsNextKept rest number kept → Fronted said → Unfit said (read_words kept.line.now) → n ≡ kept.number → IsBadHeader bytes n
unfit {bytes} b k f u e = subst (IsBadHeader bytes) (sym e) (bad_line b k f.header f.limits f.built f.says f.short u.none)

abbrev header_of : Scheme → ℕ → Geometry → ℕ → TailKind → Header
header_of s p g b t = record { scheme = s.name; width = s.width; procs = p; geometry = g; bound = b; tail = t }

abbrev direct : Scheme
direct = record { name = Direct; width = 0 }

abbrev least : Geometry
least = record { words = 1; sets = 1; ways = 1 }

one_power : IsPowerOfTwo 1
one_power = (0, refl)

least_is : IsGeometry least
least_is = record { words = one_power; words_most = omega arith; sets = one_power; sets_most = omega arith; ways = omega arith; ways_most = omega arith }

base : IsHeader (header_of direct 1 least 0 NoTail)
base = record { width = refl; procs = omega arith; procs_most = omega arith; geometry = least_is; room = omega arith; bound = omega arith }

pub front0 : Fronted []
front0 = record { header = header_of direct 1 least 0 NoTail; limits = base; built = refl; says = tt; short = omega arith }

pub unfit0 : (w : List (List ℕ)) → (CanSay Version w → ⊥) → Unfit [] w
unfit0 w not = record { none = λ h l b s. not (h, l, b, s.0) }

module _ {w1 : List (List ℕ)} (version : w1 ≡ version_words) where
  pub front1 : Fronted (w1 ∷ [])
  front1 = record { header = header_of direct 1 least 0 NoTail; limits = base; built = refl; says = (version, tt); short = omega arith }

  pub unfit1 : (w : List (List ℕ)) → (CanSay SchemePlace w → ⊥) → Unfit (w1 ∷ []) w
  unfit1 w not = record { none = λ h l b s. not (h, l, b, s.1.0) }

  module _ {s : Scheme} {w2 : List (List ℕ)} (scheme : SaysScheme s w2) where
    pub front2 : Fronted (w1 ∷ w2 ∷ [])
    front2 = record {
      header = header_of s 1 least 0 NoTail;
      limits = record { width = scheme.width; procs = omega arith; procs_most = omega arith; geometry = least_is; room = omega arith; bound = omega arith };
      built = scheme.built;
      says = (version, (scheme.says, tt));
      short = omega arith;
    }

    pub unfit2 : (w : List (List ℕ)) → (CanSay Procs w → ⊥) → Unfit (w1 ∷ w2 ∷ []) w
    unfit2 w not = record { none = λ h l b s. not (h, l, b, s.1.1.0) }

    module _ {p : ℕ} {w3 : List (List ℕ)} (procs : SaysProcs p w3) where
      pub front3 : Fronted (w1 ∷ w2 ∷ w3 ∷ [])
      front3 = record {
        header = header_of s p least 0 NoTail;
        limits = record { width = scheme.width; procs = procs.some; procs_most = procs.most; geometry = least_is; room = omega (arith, procs.most); bound = omega arith };
        built = scheme.built;
        says = (version, (scheme.says, (procs.says, tt)));
        short = omega arith;
      }

      pub unfit3 : (w : List (List ℕ)) → (CanSayCache p w → ⊥) → Unfit (w1 ∷ w2 ∷ w3 ∷ []) w
      unfit3 w not = record { none = λ h l b s. not (h, l, same_Some h.procs p (sym s.1.1.0 ∙ procs.says), s.1.1.1.0) }

      module _ {g : Geometry} {w4 : List (List ℕ)} (cache : SaysCache p g w4) where
        pub front4 : Fronted (w1 ∷ w2 ∷ w3 ∷ w4 ∷ [])
        front4 = record {
          header = header_of s p g 0 NoTail;
          limits = record { width = scheme.width; procs = procs.some; procs_most = procs.most; geometry = cache.geometry_is; room = cache.room; bound = omega arith };
          built = scheme.built;
          says = (version, (scheme.says, (procs.says, (cache.says, tt))));
          short = omega arith;
        }

        pub unfit4 : (w : List (List ℕ)) → (CanSay Bound w → ⊥) → Unfit (w1 ∷ w2 ∷ w3 ∷ w4 ∷ []) w
        unfit4 w not = record { none = λ h l b s. not (h, l, b, s.1.1.1.1.0) }

        module _ {bound : ℕ} {w5 : List (List ℕ)} (bound_says : SaysBound bound w5) where
          pub front5 : Fronted (w1 ∷ w2 ∷ w3 ∷ w4 ∷ w5 ∷ [])
          front5 = record {
            header = header_of s p g bound NoTail;
            limits = record { width = scheme.width; procs = procs.some; procs_most = procs.most; geometry = cache.geometry_is; room = cache.room; bound = bound_says.most };
            built = scheme.built;
            says = (version, (scheme.says, (procs.says, (cache.says, (bound_says.says, tt)))));
            short = omega arith;
          }

          pub unfit5 : (w : List (List ℕ)) → (CanSay Tail w → ⊥) → Unfit (w1 ∷ w2 ∷ w3 ∷ w4 ∷ w5 ∷ []) w
          unfit5 w not = record { none = λ h l b s. not (h, l, b, s.1.1.1.1.1.0) }

          module _ {t : TailKind} (w6 : List (List ℕ)) (tail : tail_of w6 ≡ Some t) where
            pub limits6 : IsHeader (header_of s p g bound t)
            limits6 = record { width = scheme.width; procs = procs.some; procs_most = procs.most; geometry = cache.geometry_is; room = cache.room; bound = bound_says.most }

            pub front6 : Fronted (w1 ∷ w2 ∷ w3 ∷ w4 ∷ w5 ∷ w6 ∷ [])
            front6 = record {
              header = header_of s p g bound t;
              limits = limits6;
              built = scheme.built;
              says = (version, (scheme.says, (procs.says, (cache.says, (bound_says.says, (tail, tt))))));
              short = omega arith;
            }

            pub unfit6 : (w : List (List ℕ)) → (CanSay Events w → ⊥) → Unfit (w1 ∷ w2 ∷ w3 ∷ w4 ∷ w5 ∷ w6 ∷ []) w
            unfit6 w not = record { none = λ h l b s. not (h, l, b, s.1.1.1.1.1.1.0) }

            pub says7 : {w7 : List (List ℕ)} → w7 ≡ events_words → SayAll places (header_of s p g bound t) (w1 ∷ w2 ∷ w3 ∷ w4 ∷ w5 ∷ w6 ∷ w7 ∷ [])
            says7 last = (version, (scheme.says, (procs.says, (cache.says, (bound_says.says, (tail, (last, tt)))))))
