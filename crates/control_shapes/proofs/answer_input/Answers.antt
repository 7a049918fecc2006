-- `control_shapes::answer_input` meets its contract: the text for what is read is written, and a longer input is refused as that is.
use Rattle.std.proofs.Common.{take, subst, arith}
use Rattle.std.proofs.lemmas.Result.{on_ok_weaker}
use Rattle.std.specs.Io.KnownBytes.{Appends}
use Rattle.input_bytes.proofs.InputLaws.{writes-for}
use Rattle.control_shapes.specs.Answers.{answer_text}
use Rattle.control_shapes.proofs.AnswersLaws.{longer-same, text-first}
use Rattle.control_shapes.proofs.answer_input.Goals as goal

pub returns : goal.returns
returns g c =
    let read = c.in_ok-read.ensures in
    on_ok_weaker c.write_all.result
    (λ written. writes-for answer_text 4 longer-same _ _ (take c.in_ok-read.read c.read_full.new.buffer) read.bytes (λ short. read.end (omega (arith, short, read.bound.1))) _ _
    (subst (Appends _ _) (text-first _ c.put_text-end.ensures.text c.put_text-end.ensures.length) written))
    c.write_all.ensures.bytes
