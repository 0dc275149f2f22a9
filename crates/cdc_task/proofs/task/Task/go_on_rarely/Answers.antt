use Rattle.std.proofs.Common.{◌≡◌, sym, ap, ◌∙◌, w32, to_z, of_z, rules}
use Rattle.cdc_code.specs.declared.instr.Instr.TheVariants.{Fork}
use Rattle.cdc_task.proofs.Same.{fits_as, ends_as}
use Rattle.cdc_task.proofs.task.Task.go_on_rarely.Goals as goal

pub open_loop-requires-clause-fit : goal.open_loop-requires-clause-fit
open_loop-requires-clause-fit c = (c.args.code.now, c.requires.fit.0, c.args.records.now, fits_as c.args.code.now c.args.records.now c.args.line _ _ c.in-Doinit.is c.requires.fit.0 c.args.self.now c.requires.fit.1)

pub push_input-requires-clause-fit : goal.push_input-requires-clause-fit
push_input-requires-clause-fit c = (c.args.code.now, c.requires.fit.0, fits_as c.args.code.now c.args.records.now c.args.line _ _ c.in-Take.is c.requires.fit.0 c.args.self.now c.requires.fit.1)

pub put-requires-clause-fit : goal.put-requires-clause-fit
put-requires-clause-fit c = (c.args.line, (c.args.code.now, c.requires.fit.0, c.args.records.now, fits_as c.args.code.now c.args.records.now c.args.line _ _ c.in-Put.is c.requires.fit.0 c.args.self.now c.requires.fit.1))

pub return_back-requires : goal.return_back-requires
return_back-requires c = record { fit = (c.args.line, (c.args.code.now, c.requires.fit.0, c.args.records.now, fits_as c.args.code.now c.args.records.now c.args.line _ _ c.in-Return.is c.requires.fit.0 c.args.self.now c.requires.fit.1)) }

pub fork_doall-requires-clause-fit : goal.fork_doall-requires-clause-fit
fork_doall-requires-clause-fit c =
    let same : to_z w32 (of_z w32 c.in-Fork.by) ≡ c.in-Fork.by = search rules in
    let is = c.in-Fork.is ∙ ap (Fork c.in-Fork.number) (sym same) in
    (c.args.code.now, c.requires.fit.0, c.args.records.now, fits_as c.args.code.now c.args.records.now c.args.line _ _ is c.requires.fit.0 c.args.self.now c.requires.fit.1)

pub returns-in-Doinit : goal.returns-in-Doinit
returns-in-Doinit c = ends_as c.args.code.now c.args.records.now c.args.line _ _ c.in-Doinit.is c.args.self.now c.open_loop.result c.open_loop.new.self (c.open_loop.ensures c.args.code.now c.args.records.now)

pub returns-in-Take : goal.returns-in-Take
returns-in-Take c = ends_as c.args.code.now c.args.records.now c.args.line _ _ c.in-Take.is c.args.self.now c.push_input.result c.push_input.new.self (c.push_input.ensures c.args.code.now)

pub returns-in-RecordEnd : goal.returns-in-RecordEnd
returns-in-RecordEnd c = ends_as c.args.code.now c.args.records.now c.args.line _ _ c.in-RecordEnd.is c.args.self.now c.skip_record.result c.skip_record.new.self (c.skip_record.ensures c.args.code.now)

pub returns-in-Put : goal.returns-in-Put
returns-in-Put c = ends_as c.args.code.now c.args.records.now c.args.line _ _ c.in-Put.is c.args.self.now c.put.result c.put.new.self (c.put.ensures c.args.line c.args.code.now c.args.records.now)

pub returns-in-Arg : goal.returns-in-Arg
returns-in-Arg c = ends_as c.args.code.now c.args.records.now c.args.line _ _ c.in-Arg.is c.args.self.now c.pass.result c.pass.new.self (c.pass.ensures c.args.line c.args.code.now c.args.records.now)

pub returns-in-Call : goal.returns-in-Call
returns-in-Call c = ends_as c.args.code.now c.args.records.now c.args.line _ _ c.in-Call.is c.args.self.now c.call.result c.call.new.self (c.call.ensures c.args.line c.args.records.now)

pub returns-in-Return : goal.returns-in-Return
returns-in-Return c = ends_as c.args.code.now c.args.records.now c.args.line _ _ c.in-Return.is c.args.self.now c.return_back.result c.return_back.new.self (c.return_back.ensures c.args.line c.args.code.now c.args.records.now)

pub returns-in-Fork : goal.returns-in-Fork
returns-in-Fork c =
    let same : to_z w32 (of_z w32 c.in-Fork.by) ≡ c.in-Fork.by = search rules in
    let is = c.in-Fork.is ∙ ap (Fork c.in-Fork.number) (sym same) in
    ends_as c.args.code.now c.args.records.now c.args.line _ _ is c.args.self.now c.fork_doall.result c.fork_doall.new.self (c.fork_doall.ensures c.args.code.now c.args.records.now)
