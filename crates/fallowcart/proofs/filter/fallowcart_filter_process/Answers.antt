use Rattle.fallowcart.proofs.filter.fallowcart_filter_process.Goals as goal

pub returns : goal.returns
returns c = rw c.label-context.ensures at c.process.ensures
