use Rattle.fallowcart.proofs.filter.fallowcart_filter_open.Goals as goal

pub returns : goal.returns
returns c = rw c.settings-config.ensures at c.«open».ensures
