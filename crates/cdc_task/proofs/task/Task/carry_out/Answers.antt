use Rattle.std.proofs.Common.{rules}
use Rattle.cdc_task.proofs.Same.{fits_as, steps_as}
use Rattle.cdc_task.proofs.task.Task.carry_out.Goals as goal

pub load-requires-clause-fit : goal.load-requires-clause-fit
load-requires-clause-fit g c = (c.in-Load.field-1, c.args.step.now.line, c.args.records.now, fits_as c.args.code.now c.args.records.now c.args.step.now.line _ _ c.in-Load.is _ c.args.self.now c.requires.fit)

pub load_element-requires-clause-fit : goal.load_element-requires-clause-fit
load_element-requires-clause-fit g c = (c.in-Loade.field-1, c.args.step.now.line, c.args.records.now, fits_as c.args.code.now c.args.records.now c.args.step.now.line _ _ c.in-Loade.is _ c.args.self.now c.requires.fit)

pub store-requires-clause-fit : goal.store-requires-clause-fit
store-requires-clause-fit g c = (c.in-Store.field-1, c.args.step.now.line, c.args.records.now, fits_as c.args.code.now c.args.records.now c.args.step.now.line _ _ c.in-Store.is _ c.args.self.now c.requires.fit)

pub store_element-requires-clause-fit : goal.store_element-requires-clause-fit
store_element-requires-clause-fit g c = (c.in-Storee.field-1, c.args.step.now.line, c.args.records.now, fits_as c.args.code.now c.args.records.now c.args.step.now.line _ _ c.in-Storee.is _ c.args.self.now c.requires.fit)

pub go_on-requires : goal.go_on-requires
go_on-requires g c = record {
  place = c.requires.place;
  kind = search rules;
  names = c.requires.names;
  fit = (_, c.requires.fit);
}

pub returns-in-Load-clause-step : goal.returns-in-Load-clause-step
returns-in-Load-clause-step g c = steps_as c.args.code.now c.args.records.now c.args.step.now.line _ _ c.in-Load.is g.P.Port c.args.self.now c.args.port.now c.load.result c.load.new.self c.load.new.port (c.load.ensures.step c.in-Load.field-1 c.args.step.now.line c.args.records.now)

pub returns-in-Loade-clause-step : goal.returns-in-Loade-clause-step
returns-in-Loade-clause-step g c = steps_as c.args.code.now c.args.records.now c.args.step.now.line _ _ c.in-Loade.is g.P.Port c.args.self.now c.args.port.now c.load_element.result c.load_element.new.self c.load_element.new.port (c.load_element.ensures.step c.in-Loade.field-1 c.args.step.now.line c.args.records.now)

pub returns-in-Store-clause-step : goal.returns-in-Store-clause-step
returns-in-Store-clause-step g c = steps_as c.args.code.now c.args.records.now c.args.step.now.line _ _ c.in-Store.is g.P.Port c.args.self.now c.args.port.now c.store.result c.store.new.self c.store.new.port (c.store.ensures.step c.in-Store.field-1 c.args.step.now.line c.args.records.now)

pub returns-in-Storee-clause-step : goal.returns-in-Storee-clause-step
returns-in-Storee-clause-step g c = steps_as c.args.code.now c.args.records.now c.args.step.now.line _ _ c.in-Storee.is g.P.Port c.args.self.now c.args.port.now c.store_element.result c.store_element.new.self c.store_element.new.port (c.store_element.ensures.step c.in-Storee.field-1 c.args.step.now.line c.args.records.now)
