use Rattle.epx_laws.proofs.order.lawful_orders_have_same_ids.Goals as goal

pub returns : goal.returns
returns c = λ m ids other lawful lawful' x there. lawful'.whole x (lawful.only x there)
