use Rattle.std.proofs.Common.{◌≡◌, ◌-◌, List, [], ◌∷◌, length, ap, ◌∙◌, sym, subst}
use Rattle.cdc_prog.specs.Data.{zeros}
use Rattle.cdc_prog.specs.Process.{Halt}
use Rattle.cdc_prog.specs.declared.program.Dim.{Dim}
use Rattle.cdc_prog.specs.InOrder.{output, ends}
use Rattle.cdc_prog.specs.Meaning.{Meaning, bytes_of, meaning}
use Rattle.cdc_prog.specs.Bodies.{HasOnly}
use Rattle.cdc_prog.specs.Resolved.{StmtFits}
use Rattle.cdc_prog.specs.Units.{body_of, unit, process_of}
use Rattle.cdc_prog.specs.Statements.{Calls, stmt}
use Rattle.cdc_prog.specs.Translation.{stmts_of, program_of}
use Rattle.cdc_prog.specs.Unread.{left_of}
use Rattle.cdc_meaning.specs.Carried.{output_of, state}
use Rattle.cdc_prog.specs.Answers.{IsRun, HasPlainCause}
use Rattle.cdc_meaning.specs.Answers.{TellsLine}
use Rattle.cdc_prog.proofs.Answers.{all_zeros, is_run, has_cause}
use Rattle.cdc_meaning.proofs.Answers.{without_calls, process_is, meaning_is, comes_over, tells_line}
use Rattle.cdc_meaning.specs.Doall.{SlotsWithin}
use Rattle.cdc_meaning.proofs.run.run_on.Goals as goal

pub exec_all-end-requires-clause-fits : goal.exec_all-end-requires-clause-fits
exec_all-end-requires-clause-fits g c =
    let p = program_of c.args.program.now in
    let h = c.requires.resolved in
    let body = body_of p p.main in
    let fits = subst (λ (shapes : List (List Dim)). StmtFits p h.ranks (h.ranks p.main) shapes 0 body) h.main_alone (h.fits p.main h.main) in
    subst (StmtFits p (λ u. 0) 0 [] 0) (sym c.main_body.ensures) (without_calls (Unit {0}) (Unit {0}) p h.ranks (h.ranks p.main) [] 0 body fits (c.requires.calls p.main))

pub exec_all-end-requires-clause-calls : goal.exec_all-end-requires-clause-calls
exec_all-end-requires-clause-calls g c =
    subst (HasOnly (Unit {0}) (Unit {0}) ⊥) (sym c.main_body.ensures) (c.requires.calls c.args.program.now.main)

pub exec_all-end-requires-clause-lane : goal.exec_all-end-requires-clause-lane
exec_all-end-requires-clause-lane g c =
    subst (SlotsWithin (length c.args.lane.now)) (sym c.main_body.ensures) c.requires.lane

pub returns : goal.returns
returns g c =
    let p = program_of c.args.program.now in
    let h = c.requires.resolved in
    let records = c.args.records.now in
    let body = stmts_of c.main_body.result.now in
    let calls : Calls = λ number. unit p (length p.units - 1) (number ∷ []) in
    let q = stmt calls (record { path = []; objects = p.objects; shapes = []; bound = [] }) body (record { slots = zeros; input = left_of c.new.result }) (λ d. Halt) in
    let is : process_of p records ≡ q =
    ap (process_of p) (sym c.new.ensures) ∙ process_is p (left_of c.new.result) body h.main h.main_alone (sym c.main_body.ensures) in
    let n = c.exec_all-end.new in
    let x = state c.args.words.now [] (left_of c.new.result) (output_of (g.K.Sink.taken c.args.out.now) c.new-2.result (g.K.Sink.faults c.args.out.now)) in
    let y = state n.words n.slots (left_of n.streams.unread) (output_of (g.K.Sink.taken n.out) n.streams.page (g.K.Sink.faults n.out)) in
    let store = all_zeros c.args.words.now p.words c.requires.zeros in
    let end = c.exec_all-end.result in
    let halts = c.exec_all-end.ensures calls (λ d. Halt) in
    let comes = comes_over p.texts q x y end halts in
    let handed = c.hand_on-end.result in
    let now = g.K.Sink.taken c.hand_on-end.new.out in
    let risen = g.K.Sink.faults c.hand_on-end.new.out in
    let none = c.new-2.ensures.gathered in
    let hands = c.hand_on-end.ensures in
    let m : Meaning = record { bytes = bytes_of p.texts (output q x.store); end = ends q x.store } in
    let meant : m ≡ meaning p records = meaning_is p records q x.store is store in
    record {
      run = subst (λ n. IsRun n x.output.sent.taken now c.answer.result) meant (subst (IsRun m x.output.sent.taken now) (sym c.answer.ensures) (is_run m x.output.sent y.output.sent handed now risen none end comes hands));
      line = subst (λ n. TellsLine n (record { answer = c.answer.result; is_open = y.output.is_open })) meant (subst (λ a. TellsLine m (record { answer = a; is_open = y.output.is_open })) (sym c.answer.ensures) (tells_line p.texts q x y handed now risen end c.new-2.ensures.shut halts hands));
      cause = subst (HasPlainCause x.output.sent.faults risen) (sym c.answer.ensures) (has_cause m x.output.sent y.output.sent handed now risen none end comes hands);
    }
