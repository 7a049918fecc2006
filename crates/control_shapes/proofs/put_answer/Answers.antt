-- `control_shapes::put_answer` writes what the length asked for calls for. Assumes nothing.
use Rattle.control_shapes.proofs.AnswersLaws as laws
use Rattle.control_shapes.proofs.put_answer.Goals as goal

pub shapes_up_to-requires-clause-longest_le_max_shape : goal.shapes_up_to-requires-clause-longest_le_max_shape
shapes_up_to-requires-clause-longest_le_max_shape c = laws.most c.args.input.now c.asked.ensures c.in-Some.longest c.in-Some.is

pub returns-in-None : goal.returns-in-None
returns-in-None c = laws.refused-answered c.args.input.now c.asked.ensures c.in-None.is c.put_refused.ensures

pub returns-in-Some : goal.returns-in-Some
returns-in-Some c = laws.shapes-answered c.args.input.now c.asked.ensures c.in-Some.longest c.in-Some.is c.shapes_up_to.ensures
