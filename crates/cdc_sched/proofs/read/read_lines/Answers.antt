use Rattle.std.proofs.Common.{◌≡◌, ◌+◌, ◌-◌, length, Some, refl, arith}
use Rattle.std.proofs.lemmas.Option.{MatchOption-at_some, MatchOption-at_none}
use Rattle.std.proofs.lemmas.Result.{err_from_is_err_and}
use Rattle.cdc_sched.specs.Fits.{CanSay, CanSayCache, SaysScheme, SaysProcs, SaysCache, SaysBound}
use Rattle.cdc_sched.specs.HeaderLines.{version_words, events_words, tail_of}
use Rattle.cdc_sched.specs.Headers.Place.{Version, Scheme as SchemePlace, Procs, Bound, Tail, Events}
use Rattle.cdc_sched.specs.Lines.{read_words}
use Rattle.cdc_sched.proofs.Fronts.{before_start, before_more, whole_header}
use Rattle.cdc_sched.proofs.Steps.{missing, unfit, front0, front1, front2, front3, front4, front5, front6, unfit0, unfit1, unfit2, unfit3, unfit4, unfit5, unfit6, limits6, says7}
use Rattle.cdc_sched.proofs.read.read_lines.Goals as goal

pub returns-in_err-first-clause-header : goal.returns-in_err-first-clause-header
returns-in_err-first-clause-header c = let p = err_from_is_err_and c.from_residual.result c.from_residual.ensures.1 in rw p.1 tt

pub returns-in_err-first-clause-refused : goal.returns-in_err-first-clause-refused
returns-in_err-first-clause-refused c =
    let b0 = before_start c.args.bytes.now in
    let p = err_from_is_err_and c.from_residual.result c.from_residual.ensures.1 in
    rw (p.1, p.2) (missing b0 front0 c.in_err-first.ensures.none)

pub returns-in_err-fitting-clause-header : goal.returns-in_err-fitting-clause-header
returns-in_err-fitting-clause-header c = let p = err_from_is_err_and c.from_residual-in_err-fitting.result c.from_residual-in_err-fitting.ensures.1 in rw p.1 tt

pub returns-in_err-fitting-clause-refused : goal.returns-in_err-fitting-clause-refused
returns-in_err-fitting-clause-refused c =
    let b0 = before_start c.args.bytes.now in
    let p = err_from_is_err_and c.from_residual-in_err-fitting.result c.from_residual-in_err-fitting.ensures.1 in
    let not = MatchOption-at_none (CanSay Version (read_words c.in_ok-first.first.line.now) → ⊥) (λ _. read_words c.in_ok-first.first.line.now ≡ version_words) c.in_err-fitting.ensures.refused.0 c.version_line.ensures in
    rw (p.1, p.2) (unfit b0 c.in_ok-first.ensures.found front0 (unfit0 (read_words c.in_ok-first.first.line.now) not) c.in_err-fitting.ensures.refused.1)

pub header_line-requires : goal.header_line-requires
header_line-requires c = omega (arith, c.requires)

pub overflow_add-first : goal.overflow_add-first
overflow_add-first c = omega (arith, c.requires, c.in_ok-first.ensures.found.size)

pub returns-in_err-second-clause-header : goal.returns-in_err-second-clause-header
returns-in_err-second-clause-header c = let p = err_from_is_err_and c.from_residual-in_err-second.result c.from_residual-in_err-second.ensures.1 in rw p.1 tt

pub returns-in_err-second-clause-refused : goal.returns-in_err-second-clause-refused
returns-in_err-second-clause-refused c =
    let b0 = before_start c.args.bytes.now in
    let b1 = before_more b0 c.in_ok-first.ensures.found in
    let version = MatchOption-at_some (CanSay Version (read_words c.in_ok-first.first.line.now) → ⊥) (λ _. read_words c.in_ok-first.first.line.now ≡ version_words) c.in_ok-fitting.field-0 c.in_ok-fitting.ensures.found c.version_line.ensures in
    let p = err_from_is_err_and c.from_residual-in_err-second.result c.from_residual-in_err-second.ensures.1 in
    rw (p.1, p.2) (missing b1 (front1 version) c.in_err-second.ensures.none)

pub returns-in_err-scheme-clause-header : goal.returns-in_err-scheme-clause-header
returns-in_err-scheme-clause-header c = let p = err_from_is_err_and c.from_residual-in_err-scheme.result c.from_residual-in_err-scheme.ensures.1 in rw p.1 tt

pub returns-in_err-scheme-clause-refused : goal.returns-in_err-scheme-clause-refused
returns-in_err-scheme-clause-refused c =
    let b0 = before_start c.args.bytes.now in
    let b1 = before_more b0 c.in_ok-first.ensures.found in
    let version = MatchOption-at_some (CanSay Version (read_words c.in_ok-first.first.line.now) → ⊥) (λ _. read_words c.in_ok-first.first.line.now ≡ version_words) c.in_ok-fitting.field-0 c.in_ok-fitting.ensures.found c.version_line.ensures in
    let p = err_from_is_err_and c.from_residual-in_err-scheme.result c.from_residual-in_err-scheme.ensures.1 in
    let not = MatchOption-at_none (CanSay SchemePlace (read_words c.in_ok-second.second.line.now) → ⊥) (λ s. SaysScheme s (read_words c.in_ok-second.second.line.now)) c.in_err-scheme.ensures.refused.0 c.scheme_line.ensures in
    rw (p.1, p.2) (unfit b1 c.in_ok-second.ensures.found (front1 version) (unfit1 version (read_words c.in_ok-second.second.line.now) not) c.in_err-scheme.ensures.refused.1)

pub header_line-requires-2 : goal.header_line-requires-2
header_line-requires-2 c = omega (arith, c.requires, c.in_ok-first.ensures.found.size)

pub overflow_add-second : goal.overflow_add-second
overflow_add-second c = omega (arith, c.requires, c.in_ok-first.ensures.found.size, c.in_ok-second.ensures.found.size)

pub returns-in_err-third-clause-header : goal.returns-in_err-third-clause-header
returns-in_err-third-clause-header c = let p = err_from_is_err_and c.from_residual-in_err-third.result c.from_residual-in_err-third.ensures.1 in rw p.1 tt

pub returns-in_err-third-clause-refused : goal.returns-in_err-third-clause-refused
returns-in_err-third-clause-refused c =
    let b0 = before_start c.args.bytes.now in
    let b1 = before_more b0 c.in_ok-first.ensures.found in
    let b2 = before_more b1 c.in_ok-second.ensures.found in
    let version = MatchOption-at_some (CanSay Version (read_words c.in_ok-first.first.line.now) → ⊥) (λ _. read_words c.in_ok-first.first.line.now ≡ version_words) c.in_ok-fitting.field-0 c.in_ok-fitting.ensures.found c.version_line.ensures in
    let scheme = MatchOption-at_some (CanSay SchemePlace (read_words c.in_ok-second.second.line.now) → ⊥) (λ s. SaysScheme s (read_words c.in_ok-second.second.line.now)) c.in_ok-scheme.scheme c.in_ok-scheme.ensures.found c.scheme_line.ensures in
    let p = err_from_is_err_and c.from_residual-in_err-third.result c.from_residual-in_err-third.ensures.1 in
    rw (p.1, p.2) (missing b2 (front2 version scheme) c.in_err-third.ensures.none)

pub returns-in_err-procs-clause-header : goal.returns-in_err-procs-clause-header
returns-in_err-procs-clause-header c = let p = err_from_is_err_and c.from_residual-in_err-procs.result c.from_residual-in_err-procs.ensures.1 in rw p.1 tt

pub returns-in_err-procs-clause-refused : goal.returns-in_err-procs-clause-refused
returns-in_err-procs-clause-refused c =
    let b0 = before_start c.args.bytes.now in
    let b1 = before_more b0 c.in_ok-first.ensures.found in
    let b2 = before_more b1 c.in_ok-second.ensures.found in
    let version = MatchOption-at_some (CanSay Version (read_words c.in_ok-first.first.line.now) → ⊥) (λ _. read_words c.in_ok-first.first.line.now ≡ version_words) c.in_ok-fitting.field-0 c.in_ok-fitting.ensures.found c.version_line.ensures in
    let scheme = MatchOption-at_some (CanSay SchemePlace (read_words c.in_ok-second.second.line.now) → ⊥) (λ s. SaysScheme s (read_words c.in_ok-second.second.line.now)) c.in_ok-scheme.scheme c.in_ok-scheme.ensures.found c.scheme_line.ensures in
    let p = err_from_is_err_and c.from_residual-in_err-procs.result c.from_residual-in_err-procs.ensures.1 in
    let not = MatchOption-at_none (CanSay Procs (read_words c.in_ok-third.third.line.now) → ⊥) (λ p. SaysProcs p (read_words c.in_ok-third.third.line.now)) c.in_err-procs.ensures.refused.0 c.procs_line.ensures in
    rw (p.1, p.2) (unfit b2 c.in_ok-third.ensures.found (front2 version scheme) (unfit2 version scheme (read_words c.in_ok-third.third.line.now) not) c.in_err-procs.ensures.refused.1)

pub header_line-requires-3 : goal.header_line-requires-3
header_line-requires-3 c = omega (arith, c.requires, c.in_ok-first.ensures.found.size, c.in_ok-second.ensures.found.size)

pub overflow_add-third : goal.overflow_add-third
overflow_add-third c = omega (arith, c.requires, c.in_ok-first.ensures.found.size, c.in_ok-second.ensures.found.size, c.in_ok-third.ensures.found.size)

pub returns-in_err-fourth-clause-header : goal.returns-in_err-fourth-clause-header
returns-in_err-fourth-clause-header c = let p = err_from_is_err_and c.from_residual-in_err-fourth.result c.from_residual-in_err-fourth.ensures.1 in rw p.1 tt

pub returns-in_err-fourth-clause-refused : goal.returns-in_err-fourth-clause-refused
returns-in_err-fourth-clause-refused c =
    let b0 = before_start c.args.bytes.now in
    let b1 = before_more b0 c.in_ok-first.ensures.found in
    let b2 = before_more b1 c.in_ok-second.ensures.found in
    let b3 = before_more b2 c.in_ok-third.ensures.found in
    let version = MatchOption-at_some (CanSay Version (read_words c.in_ok-first.first.line.now) → ⊥) (λ _. read_words c.in_ok-first.first.line.now ≡ version_words) c.in_ok-fitting.field-0 c.in_ok-fitting.ensures.found c.version_line.ensures in
    let scheme = MatchOption-at_some (CanSay SchemePlace (read_words c.in_ok-second.second.line.now) → ⊥) (λ s. SaysScheme s (read_words c.in_ok-second.second.line.now)) c.in_ok-scheme.scheme c.in_ok-scheme.ensures.found c.scheme_line.ensures in
    let procs = MatchOption-at_some (CanSay Procs (read_words c.in_ok-third.third.line.now) → ⊥) (λ p. SaysProcs p (read_words c.in_ok-third.third.line.now)) c.in_ok-procs.procs c.in_ok-procs.ensures.found c.procs_line.ensures in
    let p = err_from_is_err_and c.from_residual-in_err-fourth.result c.from_residual-in_err-fourth.ensures.1 in
    rw (p.1, p.2) (missing b3 (front3 version scheme procs) c.in_err-fourth.ensures.none)

pub returns-in_err-geometry-clause-header : goal.returns-in_err-geometry-clause-header
returns-in_err-geometry-clause-header c = let p = err_from_is_err_and c.from_residual-in_err-geometry.result c.from_residual-in_err-geometry.ensures.1 in rw p.1 tt

pub returns-in_err-geometry-clause-refused : goal.returns-in_err-geometry-clause-refused
returns-in_err-geometry-clause-refused c =
    let b0 = before_start c.args.bytes.now in
    let b1 = before_more b0 c.in_ok-first.ensures.found in
    let b2 = before_more b1 c.in_ok-second.ensures.found in
    let b3 = before_more b2 c.in_ok-third.ensures.found in
    let version = MatchOption-at_some (CanSay Version (read_words c.in_ok-first.first.line.now) → ⊥) (λ _. read_words c.in_ok-first.first.line.now ≡ version_words) c.in_ok-fitting.field-0 c.in_ok-fitting.ensures.found c.version_line.ensures in
    let scheme = MatchOption-at_some (CanSay SchemePlace (read_words c.in_ok-second.second.line.now) → ⊥) (λ s. SaysScheme s (read_words c.in_ok-second.second.line.now)) c.in_ok-scheme.scheme c.in_ok-scheme.ensures.found c.scheme_line.ensures in
    let procs = MatchOption-at_some (CanSay Procs (read_words c.in_ok-third.third.line.now) → ⊥) (λ p. SaysProcs p (read_words c.in_ok-third.third.line.now)) c.in_ok-procs.procs c.in_ok-procs.ensures.found c.procs_line.ensures in
    let p = err_from_is_err_and c.from_residual-in_err-geometry.result c.from_residual-in_err-geometry.ensures.1 in
    let not = MatchOption-at_none (CanSayCache c.in_ok-procs.procs (read_words c.in_ok-fourth.fourth.line.now) → ⊥) (λ g. SaysCache c.in_ok-procs.procs g (read_words c.in_ok-fourth.fourth.line.now)) c.in_err-geometry.ensures.refused.0 c.cache_line.ensures in
    rw (p.1, p.2) (unfit b3 c.in_ok-fourth.ensures.found (front3 version scheme procs) (unfit3 version scheme procs (read_words c.in_ok-fourth.fourth.line.now) not) c.in_err-geometry.ensures.refused.1)

pub header_line-requires-4 : goal.header_line-requires-4
header_line-requires-4 c = omega (arith, c.requires, c.in_ok-first.ensures.found.size, c.in_ok-second.ensures.found.size, c.in_ok-third.ensures.found.size)

pub overflow_add-fourth : goal.overflow_add-fourth
overflow_add-fourth c = omega (arith, c.requires, c.in_ok-first.ensures.found.size, c.in_ok-second.ensures.found.size, c.in_ok-third.ensures.found.size, c.in_ok-fourth.ensures.found.size)

pub returns-in_err-fifth-clause-header : goal.returns-in_err-fifth-clause-header
returns-in_err-fifth-clause-header c = let p = err_from_is_err_and c.from_residual-in_err-fifth.result c.from_residual-in_err-fifth.ensures.1 in rw p.1 tt

pub returns-in_err-fifth-clause-refused : goal.returns-in_err-fifth-clause-refused
returns-in_err-fifth-clause-refused c =
    let b0 = before_start c.args.bytes.now in
    let b1 = before_more b0 c.in_ok-first.ensures.found in
    let b2 = before_more b1 c.in_ok-second.ensures.found in
    let b3 = before_more b2 c.in_ok-third.ensures.found in
    let b4 = before_more b3 c.in_ok-fourth.ensures.found in
    let version = MatchOption-at_some (CanSay Version (read_words c.in_ok-first.first.line.now) → ⊥) (λ _. read_words c.in_ok-first.first.line.now ≡ version_words) c.in_ok-fitting.field-0 c.in_ok-fitting.ensures.found c.version_line.ensures in
    let scheme = MatchOption-at_some (CanSay SchemePlace (read_words c.in_ok-second.second.line.now) → ⊥) (λ s. SaysScheme s (read_words c.in_ok-second.second.line.now)) c.in_ok-scheme.scheme c.in_ok-scheme.ensures.found c.scheme_line.ensures in
    let procs = MatchOption-at_some (CanSay Procs (read_words c.in_ok-third.third.line.now) → ⊥) (λ p. SaysProcs p (read_words c.in_ok-third.third.line.now)) c.in_ok-procs.procs c.in_ok-procs.ensures.found c.procs_line.ensures in
    let cache = MatchOption-at_some (CanSayCache c.in_ok-procs.procs (read_words c.in_ok-fourth.fourth.line.now) → ⊥) (λ g. SaysCache c.in_ok-procs.procs g (read_words c.in_ok-fourth.fourth.line.now)) c.in_ok-geometry.geometry c.in_ok-geometry.ensures.found c.cache_line.ensures in
    let p = err_from_is_err_and c.from_residual-in_err-fifth.result c.from_residual-in_err-fifth.ensures.1 in
    rw (p.1, p.2) (missing b4 (front4 version scheme procs cache) c.in_err-fifth.ensures.none)

pub returns-in_err-bound-clause-header : goal.returns-in_err-bound-clause-header
returns-in_err-bound-clause-header c = let p = err_from_is_err_and c.from_residual-in_err-bound.result c.from_residual-in_err-bound.ensures.1 in rw p.1 tt

pub returns-in_err-bound-clause-refused : goal.returns-in_err-bound-clause-refused
returns-in_err-bound-clause-refused c =
    let b0 = before_start c.args.bytes.now in
    let b1 = before_more b0 c.in_ok-first.ensures.found in
    let b2 = before_more b1 c.in_ok-second.ensures.found in
    let b3 = before_more b2 c.in_ok-third.ensures.found in
    let b4 = before_more b3 c.in_ok-fourth.ensures.found in
    let version = MatchOption-at_some (CanSay Version (read_words c.in_ok-first.first.line.now) → ⊥) (λ _. read_words c.in_ok-first.first.line.now ≡ version_words) c.in_ok-fitting.field-0 c.in_ok-fitting.ensures.found c.version_line.ensures in
    let scheme = MatchOption-at_some (CanSay SchemePlace (read_words c.in_ok-second.second.line.now) → ⊥) (λ s. SaysScheme s (read_words c.in_ok-second.second.line.now)) c.in_ok-scheme.scheme c.in_ok-scheme.ensures.found c.scheme_line.ensures in
    let procs = MatchOption-at_some (CanSay Procs (read_words c.in_ok-third.third.line.now) → ⊥) (λ p. SaysProcs p (read_words c.in_ok-third.third.line.now)) c.in_ok-procs.procs c.in_ok-procs.ensures.found c.procs_line.ensures in
    let cache = MatchOption-at_some (CanSayCache c.in_ok-procs.procs (read_words c.in_ok-fourth.fourth.line.now) → ⊥) (λ g. SaysCache c.in_ok-procs.procs g (read_words c.in_ok-fourth.fourth.line.now)) c.in_ok-geometry.geometry c.in_ok-geometry.ensures.found c.cache_line.ensures in
    let p = err_from_is_err_and c.from_residual-in_err-bound.result c.from_residual-in_err-bound.ensures.1 in
    let not = MatchOption-at_none (CanSay Bound (read_words c.in_ok-fifth.fifth.line.now) → ⊥) (λ b. SaysBound b (read_words c.in_ok-fifth.fifth.line.now)) c.in_err-bound.ensures.refused.0 c.bound_line.ensures in
    rw (p.1, p.2) (unfit b4 c.in_ok-fifth.ensures.found (front4 version scheme procs cache) (unfit4 version scheme procs cache (read_words c.in_ok-fifth.fifth.line.now) not) c.in_err-bound.ensures.refused.1)

pub header_line-requires-5 : goal.header_line-requires-5
header_line-requires-5 c = omega (arith, c.requires, c.in_ok-first.ensures.found.size, c.in_ok-second.ensures.found.size, c.in_ok-third.ensures.found.size, c.in_ok-fourth.ensures.found.size)

pub overflow_add-fifth : goal.overflow_add-fifth
overflow_add-fifth c = omega (arith, c.requires, c.in_ok-first.ensures.found.size, c.in_ok-second.ensures.found.size, c.in_ok-third.ensures.found.size, c.in_ok-fourth.ensures.found.size, c.in_ok-fifth.ensures.found.size)

pub returns-in_err-sixth-clause-header : goal.returns-in_err-sixth-clause-header
returns-in_err-sixth-clause-header c = let p = err_from_is_err_and c.from_residual-in_err-sixth.result c.from_residual-in_err-sixth.ensures.1 in rw p.1 tt

pub returns-in_err-sixth-clause-refused : goal.returns-in_err-sixth-clause-refused
returns-in_err-sixth-clause-refused c =
    let b0 = before_start c.args.bytes.now in
    let b1 = before_more b0 c.in_ok-first.ensures.found in
    let b2 = before_more b1 c.in_ok-second.ensures.found in
    let b3 = before_more b2 c.in_ok-third.ensures.found in
    let b4 = before_more b3 c.in_ok-fourth.ensures.found in
    let b5 = before_more b4 c.in_ok-fifth.ensures.found in
    let version = MatchOption-at_some (CanSay Version (read_words c.in_ok-first.first.line.now) → ⊥) (λ _. read_words c.in_ok-first.first.line.now ≡ version_words) c.in_ok-fitting.field-0 c.in_ok-fitting.ensures.found c.version_line.ensures in
    let scheme = MatchOption-at_some (CanSay SchemePlace (read_words c.in_ok-second.second.line.now) → ⊥) (λ s. SaysScheme s (read_words c.in_ok-second.second.line.now)) c.in_ok-scheme.scheme c.in_ok-scheme.ensures.found c.scheme_line.ensures in
    let procs = MatchOption-at_some (CanSay Procs (read_words c.in_ok-third.third.line.now) → ⊥) (λ p. SaysProcs p (read_words c.in_ok-third.third.line.now)) c.in_ok-procs.procs c.in_ok-procs.ensures.found c.procs_line.ensures in
    let cache = MatchOption-at_some (CanSayCache c.in_ok-procs.procs (read_words c.in_ok-fourth.fourth.line.now) → ⊥) (λ g. SaysCache c.in_ok-procs.procs g (read_words c.in_ok-fourth.fourth.line.now)) c.in_ok-geometry.geometry c.in_ok-geometry.ensures.found c.cache_line.ensures in
    let bound = MatchOption-at_some (CanSay Bound (read_words c.in_ok-fifth.fifth.line.now) → ⊥) (λ b. SaysBound b (read_words c.in_ok-fifth.fifth.line.now)) c.in_ok-bound.bound c.in_ok-bound.ensures.found c.bound_line.ensures in
    let p = err_from_is_err_and c.from_residual-in_err-sixth.result c.from_residual-in_err-sixth.ensures.1 in
    rw (p.1, p.2) (missing b5 (front5 version scheme procs cache bound) c.in_err-sixth.ensures.none)

pub returns-in_err-tail-clause-header : goal.returns-in_err-tail-clause-header
returns-in_err-tail-clause-header c = let p = err_from_is_err_and c.from_residual-in_err-tail.result c.from_residual-in_err-tail.ensures.1 in rw p.1 tt

pub returns-in_err-tail-clause-refused : goal.returns-in_err-tail-clause-refused
returns-in_err-tail-clause-refused c =
    let b0 = before_start c.args.bytes.now in
    let b1 = before_more b0 c.in_ok-first.ensures.found in
    let b2 = before_more b1 c.in_ok-second.ensures.found in
    let b3 = before_more b2 c.in_ok-third.ensures.found in
    let b4 = before_more b3 c.in_ok-fourth.ensures.found in
    let b5 = before_more b4 c.in_ok-fifth.ensures.found in
    let version = MatchOption-at_some (CanSay Version (read_words c.in_ok-first.first.line.now) → ⊥) (λ _. read_words c.in_ok-first.first.line.now ≡ version_words) c.in_ok-fitting.field-0 c.in_ok-fitting.ensures.found c.version_line.ensures in
    let scheme = MatchOption-at_some (CanSay SchemePlace (read_words c.in_ok-second.second.line.now) → ⊥) (λ s. SaysScheme s (read_words c.in_ok-second.second.line.now)) c.in_ok-scheme.scheme c.in_ok-scheme.ensures.found c.scheme_line.ensures in
    let procs = MatchOption-at_some (CanSay Procs (read_words c.in_ok-third.third.line.now) → ⊥) (λ p. SaysProcs p (read_words c.in_ok-third.third.line.now)) c.in_ok-procs.procs c.in_ok-procs.ensures.found c.procs_line.ensures in
    let cache = MatchOption-at_some (CanSayCache c.in_ok-procs.procs (read_words c.in_ok-fourth.fourth.line.now) → ⊥) (λ g. SaysCache c.in_ok-procs.procs g (read_words c.in_ok-fourth.fourth.line.now)) c.in_ok-geometry.geometry c.in_ok-geometry.ensures.found c.cache_line.ensures in
    let bound = MatchOption-at_some (CanSay Bound (read_words c.in_ok-fifth.fifth.line.now) → ⊥) (λ b. SaysBound b (read_words c.in_ok-fifth.fifth.line.now)) c.in_ok-bound.bound c.in_ok-bound.ensures.found c.bound_line.ensures in
    let p = err_from_is_err_and c.from_residual-in_err-tail.result c.from_residual-in_err-tail.ensures.1 in
    let not = MatchOption-at_none (CanSay Tail (read_words c.in_ok-sixth.sixth.line.now) → ⊥) (λ t. tail_of (read_words c.in_ok-sixth.sixth.line.now) ≡ Some t) c.in_err-tail.ensures.refused.0 c.tail_line.ensures in
    rw (p.1, p.2) (unfit b5 c.in_ok-sixth.ensures.found (front5 version scheme procs cache bound) (unfit5 version scheme procs cache bound (read_words c.in_ok-sixth.sixth.line.now) not) c.in_err-tail.ensures.refused.1)

pub header_line-requires-6 : goal.header_line-requires-6
header_line-requires-6 c = omega (arith, c.requires, c.in_ok-first.ensures.found.size, c.in_ok-second.ensures.found.size, c.in_ok-third.ensures.found.size, c.in_ok-fourth.ensures.found.size, c.in_ok-fifth.ensures.found.size)

pub overflow_add-sixth : goal.overflow_add-sixth
overflow_add-sixth c = omega (arith, c.requires, c.in_ok-first.ensures.found.size, c.in_ok-second.ensures.found.size, c.in_ok-third.ensures.found.size, c.in_ok-fourth.ensures.found.size, c.in_ok-fifth.ensures.found.size, c.in_ok-sixth.ensures.found.size)

pub returns-in_err-last-clause-header : goal.returns-in_err-last-clause-header
returns-in_err-last-clause-header c = let p = err_from_is_err_and c.from_residual-in_err-last.result c.from_residual-in_err-last.ensures.1 in rw p.1 tt

pub returns-in_err-last-clause-refused : goal.returns-in_err-last-clause-refused
returns-in_err-last-clause-refused c =
    let b0 = before_start c.args.bytes.now in
    let b1 = before_more b0 c.in_ok-first.ensures.found in
    let b2 = before_more b1 c.in_ok-second.ensures.found in
    let b3 = before_more b2 c.in_ok-third.ensures.found in
    let b4 = before_more b3 c.in_ok-fourth.ensures.found in
    let b5 = before_more b4 c.in_ok-fifth.ensures.found in
    let b6 = before_more b5 c.in_ok-sixth.ensures.found in
    let version = MatchOption-at_some (CanSay Version (read_words c.in_ok-first.first.line.now) → ⊥) (λ _. read_words c.in_ok-first.first.line.now ≡ version_words) c.in_ok-fitting.field-0 c.in_ok-fitting.ensures.found c.version_line.ensures in
    let scheme = MatchOption-at_some (CanSay SchemePlace (read_words c.in_ok-second.second.line.now) → ⊥) (λ s. SaysScheme s (read_words c.in_ok-second.second.line.now)) c.in_ok-scheme.scheme c.in_ok-scheme.ensures.found c.scheme_line.ensures in
    let procs = MatchOption-at_some (CanSay Procs (read_words c.in_ok-third.third.line.now) → ⊥) (λ p. SaysProcs p (read_words c.in_ok-third.third.line.now)) c.in_ok-procs.procs c.in_ok-procs.ensures.found c.procs_line.ensures in
    let cache = MatchOption-at_some (CanSayCache c.in_ok-procs.procs (read_words c.in_ok-fourth.fourth.line.now) → ⊥) (λ g. SaysCache c.in_ok-procs.procs g (read_words c.in_ok-fourth.fourth.line.now)) c.in_ok-geometry.geometry c.in_ok-geometry.ensures.found c.cache_line.ensures in
    let bound = MatchOption-at_some (CanSay Bound (read_words c.in_ok-fifth.fifth.line.now) → ⊥) (λ b. SaysBound b (read_words c.in_ok-fifth.fifth.line.now)) c.in_ok-bound.bound c.in_ok-bound.ensures.found c.bound_line.ensures in
    let tail = MatchOption-at_some (CanSay Tail (read_words c.in_ok-sixth.sixth.line.now) → ⊥) (λ t. tail_of (read_words c.in_ok-sixth.sixth.line.now) ≡ Some t) c.in_ok-tail.tail c.in_ok-tail.ensures.found c.tail_line.ensures in
    let p = err_from_is_err_and c.from_residual-in_err-last.result c.from_residual-in_err-last.ensures.1 in
    rw (p.1, p.2) (missing b6 (front6 version scheme procs cache bound (read_words c.in_ok-sixth.sixth.line.now) tail) c.in_err-last.ensures.none)

pub returns-in_err-fitting-2-clause-header : goal.returns-in_err-fitting-2-clause-header
returns-in_err-fitting-2-clause-header c = let p = err_from_is_err_and c.from_residual-in_err-fitting-2.result c.from_residual-in_err-fitting-2.ensures.1 in rw p.1 tt

pub returns-in_err-fitting-2-clause-refused : goal.returns-in_err-fitting-2-clause-refused
returns-in_err-fitting-2-clause-refused c =
    let b0 = before_start c.args.bytes.now in
    let b1 = before_more b0 c.in_ok-first.ensures.found in
    let b2 = before_more b1 c.in_ok-second.ensures.found in
    let b3 = before_more b2 c.in_ok-third.ensures.found in
    let b4 = before_more b3 c.in_ok-fourth.ensures.found in
    let b5 = before_more b4 c.in_ok-fifth.ensures.found in
    let b6 = before_more b5 c.in_ok-sixth.ensures.found in
    let version = MatchOption-at_some (CanSay Version (read_words c.in_ok-first.first.line.now) → ⊥) (λ _. read_words c.in_ok-first.first.line.now ≡ version_words) c.in_ok-fitting.field-0 c.in_ok-fitting.ensures.found c.version_line.ensures in
    let scheme = MatchOption-at_some (CanSay SchemePlace (read_words c.in_ok-second.second.line.now) → ⊥) (λ s. SaysScheme s (read_words c.in_ok-second.second.line.now)) c.in_ok-scheme.scheme c.in_ok-scheme.ensures.found c.scheme_line.ensures in
    let procs = MatchOption-at_some (CanSay Procs (read_words c.in_ok-third.third.line.now) → ⊥) (λ p. SaysProcs p (read_words c.in_ok-third.third.line.now)) c.in_ok-procs.procs c.in_ok-procs.ensures.found c.procs_line.ensures in
    let cache = MatchOption-at_some (CanSayCache c.in_ok-procs.procs (read_words c.in_ok-fourth.fourth.line.now) → ⊥) (λ g. SaysCache c.in_ok-procs.procs g (read_words c.in_ok-fourth.fourth.line.now)) c.in_ok-geometry.geometry c.in_ok-geometry.ensures.found c.cache_line.ensures in
    let bound = MatchOption-at_some (CanSay Bound (read_words c.in_ok-fifth.fifth.line.now) → ⊥) (λ b. SaysBound b (read_words c.in_ok-fifth.fifth.line.now)) c.in_ok-bound.bound c.in_ok-bound.ensures.found c.bound_line.ensures in
    let tail = MatchOption-at_some (CanSay Tail (read_words c.in_ok-sixth.sixth.line.now) → ⊥) (λ t. tail_of (read_words c.in_ok-sixth.sixth.line.now) ≡ Some t) c.in_ok-tail.tail c.in_ok-tail.ensures.found c.tail_line.ensures in
    let p = err_from_is_err_and c.from_residual-in_err-fitting-2.result c.from_residual-in_err-fitting-2.ensures.1 in
    let not = MatchOption-at_none (CanSay Events (read_words c.in_ok-last.last.line.now) → ⊥) (λ _. read_words c.in_ok-last.last.line.now ≡ events_words) c.in_err-fitting-2.ensures.refused.0 c.events_line.ensures in
    rw (p.1, p.2) (unfit b6 c.in_ok-last.ensures.found (front6 version scheme procs cache bound (read_words c.in_ok-sixth.sixth.line.now) tail) (unfit6 version scheme procs cache bound (read_words c.in_ok-sixth.sixth.line.now) tail (read_words c.in_ok-last.last.line.now) not) c.in_err-fitting-2.ensures.refused.1)

pub header_line-requires-7 : goal.header_line-requires-7
header_line-requires-7 c = omega (arith, c.requires, c.in_ok-first.ensures.found.size, c.in_ok-second.ensures.found.size, c.in_ok-third.ensures.found.size, c.in_ok-fourth.ensures.found.size, c.in_ok-fifth.ensures.found.size, c.in_ok-sixth.ensures.found.size)

pub cache_line-requires : goal.cache_line-requires
cache_line-requires c = (MatchOption-at_some (CanSay Procs (read_words c.in_ok-third.third.line.now) → ⊥) (λ p. SaysProcs p (read_words c.in_ok-third.third.line.now)) c.in_ok-procs.procs c.in_ok-procs.ensures.found c.procs_line.ensures).most

pub overflow_sub-result : goal.overflow_sub-result
overflow_sub-result c = omega (arith, c.in_ok-first.ensures.found.size, c.in_ok-first.ensures.found.number_is, c.in_ok-second.ensures.found.size, c.in_ok-second.ensures.found.number_is, c.in_ok-third.ensures.found.size, c.in_ok-third.ensures.found.number_is, c.in_ok-fourth.ensures.found.size, c.in_ok-fourth.ensures.found.number_is, c.in_ok-fifth.ensures.found.size, c.in_ok-fifth.ensures.found.number_is, c.in_ok-sixth.ensures.found.size, c.in_ok-sixth.ensures.found.number_is, c.in_ok-last.ensures.found.size, c.in_ok-last.ensures.found.number_is)

pub returns-clause-header : goal.returns-clause-header
returns-clause-header c =
    let b0 = before_start c.args.bytes.now in
    let b1 = before_more b0 c.in_ok-first.ensures.found in
    let b2 = before_more b1 c.in_ok-second.ensures.found in
    let b3 = before_more b2 c.in_ok-third.ensures.found in
    let b4 = before_more b3 c.in_ok-fourth.ensures.found in
    let b5 = before_more b4 c.in_ok-fifth.ensures.found in
    let b6 = before_more b5 c.in_ok-sixth.ensures.found in
    let version = MatchOption-at_some (CanSay Version (read_words c.in_ok-first.first.line.now) → ⊥) (λ _. read_words c.in_ok-first.first.line.now ≡ version_words) c.in_ok-fitting.field-0 c.in_ok-fitting.ensures.found c.version_line.ensures in
    let scheme = MatchOption-at_some (CanSay SchemePlace (read_words c.in_ok-second.second.line.now) → ⊥) (λ s. SaysScheme s (read_words c.in_ok-second.second.line.now)) c.in_ok-scheme.scheme c.in_ok-scheme.ensures.found c.scheme_line.ensures in
    let procs = MatchOption-at_some (CanSay Procs (read_words c.in_ok-third.third.line.now) → ⊥) (λ p. SaysProcs p (read_words c.in_ok-third.third.line.now)) c.in_ok-procs.procs c.in_ok-procs.ensures.found c.procs_line.ensures in
    let cache = MatchOption-at_some (CanSayCache c.in_ok-procs.procs (read_words c.in_ok-fourth.fourth.line.now) → ⊥) (λ g. SaysCache c.in_ok-procs.procs g (read_words c.in_ok-fourth.fourth.line.now)) c.in_ok-geometry.geometry c.in_ok-geometry.ensures.found c.cache_line.ensures in
    let bound = MatchOption-at_some (CanSay Bound (read_words c.in_ok-fifth.fifth.line.now) → ⊥) (λ b. SaysBound b (read_words c.in_ok-fifth.fifth.line.now)) c.in_ok-bound.bound c.in_ok-bound.ensures.found c.bound_line.ensures in
    let tail = MatchOption-at_some (CanSay Tail (read_words c.in_ok-sixth.sixth.line.now) → ⊥) (λ t. tail_of (read_words c.in_ok-sixth.sixth.line.now) ≡ Some t) c.in_ok-tail.tail c.in_ok-tail.ensures.found c.tail_line.ensures in
    let events = MatchOption-at_some (CanSay Events (read_words c.in_ok-last.last.line.now) → ⊥) (λ _. read_words c.in_ok-last.last.line.now ≡ events_words) c.in_ok-fitting-2.field-0 c.in_ok-fitting-2.ensures.found c.events_line.ensures in
    let at : length c.args.bytes.now - length c.in_ok-last.last.after.now + length c.in_ok-last.last.after.now ≡ length c.args.bytes.now = omega (arith, c.in_ok-first.ensures.found.size, c.in_ok-first.ensures.found.number_is, c.in_ok-second.ensures.found.size, c.in_ok-second.ensures.found.number_is, c.in_ok-third.ensures.found.size, c.in_ok-third.ensures.found.number_is, c.in_ok-fourth.ensures.found.size, c.in_ok-fourth.ensures.found.number_is, c.in_ok-fifth.ensures.found.size, c.in_ok-fifth.ensures.found.number_is, c.in_ok-sixth.ensures.found.size, c.in_ok-sixth.ensures.found.number_is, c.in_ok-last.ensures.found.size, c.in_ok-last.ensures.found.number_is) in
    whole_header b6 c.in_ok-last.ensures.found _ (limits6 version scheme procs cache bound (read_words c.in_ok-sixth.sixth.line.now) tail) scheme.built (says7 version scheme procs cache bound (read_words c.in_ok-sixth.sixth.line.now) tail events) refl _ at
