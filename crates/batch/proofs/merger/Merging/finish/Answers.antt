use Rattle.batch.proofs.merger.Merging.finish.Goals as goal

pub returns-clause-fits : goal.returns-clause-fits
returns-clause-fits g c = rw (← c.columns.ensures.value, ← c.columns-2.ensures.value) c.whole.ensures.fits

pub returns-clause-refused : goal.returns-clause-refused
returns-clause-refused g c = rw (← c.columns.ensures.value, ← c.columns-2.ensures.value) c.whole.ensures.refused

pub returns-clause-stand : goal.returns-clause-stand
returns-clause-stand g c = rw (← c.columns.ensures.value, ← c.columns-2.ensures.value) c.whole.ensures.stand
