use Rattle.cdc_along.proofs.Examples as lemma
use Rattle.cdc_along.proofs.Raised.{raised_unaliased}
use Rattle.cdc_along.proofs.laws.examples.Goals as goal

pub returns-clause-resolved : goal.returns-clause-resolved
returns-clause-resolved c = lemma.nested_resolved

pub returns-clause-whole : goal.returns-clause-whole
returns-clause-whole c = lemma.nested_whole

pub returns-clause-iteration : goal.returns-clause-iteration
returns-clause-iteration c = lemma.nested_iteration

pub returns-clause-looped : goal.returns-clause-looped
returns-clause-looped c = (lemma.looped_resolved, lemma.looped_calls_nothing, lemma.looped_keeps, lemma.looped_keeps_indexes)

pub returns-clause-section : goal.returns-clause-section
returns-clause-section c = lemma.looped_touches

pub returns-clause-lies : goal.returns-clause-lies
returns-clause-lies c = lemma.looped_lies

pub returns-clause-cover : goal.returns-clause-cover
returns-clause-cover c = (lemma.printed_sites, lemma.printed_cover)

pub returns-clause-raised : goal.returns-clause-raised
returns-clause-raised c = (lemma.raised_resolved, lemma.raised_keeps, raised_unaliased, lemma.raised_touches)

pub returns-clause-words : goal.returns-clause-words
returns-clause-words c = lemma.raised_words
