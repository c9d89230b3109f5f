use Rattle.mb_model_memory.proofs.StorableOrders as orders
use Rattle.mb_model_memory.proofs.StorableSteps as steps
use Rattle.mb_model_memory.proofs.storable.steps_keep_states_storable.Goals as goal

pub returns : goal.returns
returns c = record { order = orders.obeyed_storable; step = steps.step_keeps_storable; run = steps.run_keeps_storable }
