use Rattle.std.proofs.Common.{◌≡◌, sym, ap, ◌∙◌, w32, w64, to_z, of_z, rules}
use Rattle.cdc_code.specs.declared.instr.Instr.TheVariants.{Const, Jump, Jumpz, Dotest}
use Rattle.cdc_task.proofs.Same.{fits_as, ends_as}
use Rattle.cdc_task.proofs.task.Task.go_on.Goals as goal

pub push_number-requires-clause-fit : goal.push_number-requires-clause-fit
push_number-requires-clause-fit c =
    let same : to_z w64 (of_z w64 c.in-Const.number) ≡ c.in-Const.number = search rules in
    let is = c.in-Const.is ∙ ap (Const) (sym same) in
    (c.args.step.now.line, (c.args.code.now, c.requires.fit.0, c.args.records.now, fits_as c.args.code.now c.args.records.now c.args.step.now.line _ _ is c.requires.fit.0 c.args.self.now c.requires.fit.1))

pub push_slot-requires-clause-fit : goal.push_slot-requires-clause-fit
push_slot-requires-clause-fit c = (c.args.step.now.line, (c.args.code.now, c.requires.fit.0, c.args.records.now, fits_as c.args.code.now c.args.records.now c.args.step.now.line _ _ c.in-Local.is c.requires.fit.0 c.args.self.now c.requires.fit.1))

pub pop_slot-requires-clause-fit : goal.pop_slot-requires-clause-fit
pop_slot-requires-clause-fit c = (c.args.step.now.line, (c.args.code.now, c.requires.fit.0, c.args.records.now, fits_as c.args.code.now c.args.records.now c.args.step.now.line _ _ c.in-Setlocal.is c.requires.fit.0 c.args.self.now c.requires.fit.1))

pub jump_on_zero-requires-clause-fit : goal.jump_on_zero-requires-clause-fit
jump_on_zero-requires-clause-fit c =
    let same : to_z w32 (of_z w32 c.in-Jumpz.by) ≡ c.in-Jumpz.by = search rules in
    let is = c.in-Jumpz.is ∙ ap (Jumpz) (sym same) in
    (c.args.step.now.line, (c.args.code.now, c.requires.fit.0, c.args.records.now, fits_as c.args.code.now c.args.records.now c.args.step.now.line _ _ is c.requires.fit.0 c.args.self.now c.requires.fit.1))

pub test_loop-requires-clause-fit : goal.test_loop-requires-clause-fit
test_loop-requires-clause-fit c =
    let same : to_z w32 (of_z w32 c.in-Dotest.by) ≡ c.in-Dotest.by = search rules in
    let is = c.in-Dotest.is ∙ ap (Dotest) (sym same) in
    (c.args.step.now.line, (c.args.code.now, c.requires.fit.0, c.args.records.now, fits_as c.args.code.now c.args.records.now c.args.step.now.line _ _ is c.requires.fit.0 c.args.self.now c.requires.fit.1))

pub raise-requires-clause-fit : goal.raise-requires-clause-fit
raise-requires-clause-fit c = (c.args.code.now, c.requires.fit.0, c.args.records.now, fits_as c.args.code.now c.args.records.now c.args.step.now.line _ _ c.in-Doadd.is c.requires.fit.0 c.args.self.now c.requires.fit.1)

pub returns-in-Const : goal.returns-in-Const
returns-in-Const c =
    let same : to_z w64 (of_z w64 c.in-Const.number) ≡ c.in-Const.number = search rules in
    let is = c.in-Const.is ∙ ap (Const) (sym same) in
    ends_as c.args.code.now c.args.records.now c.args.step.now.line _ _ is c.args.self.now c.push_number.result c.push_number.new.self (c.push_number.ensures c.args.step.now.line c.args.code.now c.args.records.now)

pub returns-in-Local : goal.returns-in-Local
returns-in-Local c = ends_as c.args.code.now c.args.records.now c.args.step.now.line _ _ c.in-Local.is c.args.self.now c.push_slot.result c.push_slot.new.self (c.push_slot.ensures c.args.step.now.line c.args.code.now c.args.records.now)

pub returns-in-Setlocal : goal.returns-in-Setlocal
returns-in-Setlocal c = ends_as c.args.code.now c.args.records.now c.args.step.now.line _ _ c.in-Setlocal.is c.args.self.now c.pop_slot.result c.pop_slot.new.self (c.pop_slot.ensures c.args.step.now.line c.args.code.now c.args.records.now)

pub returns-in-Jump : goal.returns-in-Jump
returns-in-Jump c =
    let same : to_z w32 (of_z w32 c.in-Jump.by) ≡ c.in-Jump.by = search rules in
    let is = c.in-Jump.is ∙ ap (Jump) (sym same) in
    ends_as c.args.code.now c.args.records.now c.args.step.now.line _ _ is c.args.self.now c.jump.result c.jump.new.self (c.jump.ensures c.args.step.now.line c.args.code.now c.args.records.now)

pub returns-in-Jumpz : goal.returns-in-Jumpz
returns-in-Jumpz c =
    let same : to_z w32 (of_z w32 c.in-Jumpz.by) ≡ c.in-Jumpz.by = search rules in
    let is = c.in-Jumpz.is ∙ ap (Jumpz) (sym same) in
    ends_as c.args.code.now c.args.records.now c.args.step.now.line _ _ is c.args.self.now c.jump_on_zero.result c.jump_on_zero.new.self (c.jump_on_zero.ensures c.args.step.now.line c.args.code.now c.args.records.now)

pub returns-in-Dotest : goal.returns-in-Dotest
returns-in-Dotest c =
    let same : to_z w32 (of_z w32 c.in-Dotest.by) ≡ c.in-Dotest.by = search rules in
    let is = c.in-Dotest.is ∙ ap (Dotest) (sym same) in
    ends_as c.args.code.now c.args.records.now c.args.step.now.line _ _ is c.args.self.now c.test_loop.result c.test_loop.new.self (c.test_loop.ensures c.args.step.now.line c.args.code.now c.args.records.now)

pub returns-in-Doadd : goal.returns-in-Doadd
returns-in-Doadd c = ends_as c.args.code.now c.args.records.now c.args.step.now.line _ _ c.in-Doadd.is c.args.self.now c.raise.result c.raise.new.self (c.raise.ensures c.args.code.now c.args.records.now)
