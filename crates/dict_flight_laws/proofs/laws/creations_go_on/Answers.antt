use Rattle.dict_flight_laws.proofs.Moves.{may_prepare, prepared, may_make, performed}
use Rattle.dict_flight_laws.proofs.laws.creations_go_on.Goals as goal

pub returns-clause-may_prepare : goal.returns-clause-may_prepare
returns-clause-may_prepare c = λ s store wanted before after made plan creates old order. may_prepare s store wanted before after made plan creates old order

pub returns-clause-prepared : goal.returns-clause-prepared
returns-clause-prepared c = λ s t store grown wanted before after made plan creates old kept. prepared s store wanted before after made plan creates old t grown kept

pub returns-clause-may_make : goal.returns-clause-may_make
returns-clause-may_make c = λ s store wanted before after made plan old. may_make s store wanted before after made plan old

pub returns-clause-made : goal.returns-clause-made
returns-clause-made c = λ s t store grown wanted before after made plan old kept. performed s store wanted before after made plan old t grown kept

pub returns-clause-stays : goal.returns-clause-stays
returns-clause-stays c = λ s t store grown wanted phases old kept. record { kept = kept; clear = old.clear; ordinary = old.ordinary; each = old.each }
