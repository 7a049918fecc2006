-- `session_calls::run_call` meets its contract: each call is made by its function, and any other on the endpoint. Assumes nothing.
use Rattle.session.specs.Sessions.{good_quiet, with_lengths}
use Rattle.session_lines.specs.Lines.{append_trb, append_result}
use Rattle.session_calls.specs.Answers.{state_in, answer_of}
use Rattle.session_calls.proofs.AnswerLaws.{answers-quiet, answers-window}
use Rattle.session_calls.proofs.OtherCalls.{OnEndpoint, answer_of-other}
use Rattle.session_calls.proofs.run_call.Goals as goal

pub returns-in-Window-clause-answer : goal.returns-in-Window-clause-answer
unfolding answer_of
returns-in-Window-clause-answer c =
    let a = c.args in
    rw c.in-Window.is (answers-window (state_in a.session a.buffers.now) c.requires c.move_window.ensures)

pub returns-in-CreateIn-clause-answer : goal.returns-in-CreateIn-clause-answer
unfolding answer_of
returns-in-CreateIn-clause-answer c =
    let b = c.args.buffers.now in
    rw c.in-CreateIn.is (c.create_in.ensures b.log.now b.collect.now b.low.now b.high.now)

pub returns-in-CreateControl-clause-answer : goal.returns-in-CreateControl-clause-answer
unfolding answer_of
returns-in-CreateControl-clause-answer c =
    let b = c.args.buffers.now in
    rw c.in-CreateControl.is (c.create_control.ensures b.log.now b.low.now b.high.now)

pub returns-in-CompleteRow-clause-answer : goal.returns-in-CompleteRow-clause-answer
unfolding answer_of
returns-in-CompleteRow-clause-answer c = rw c.in-CompleteRow.is c.run_row_on_endpoint.ensures.answer

pub returns-in-Time-clause-answer : goal.returns-in-Time-clause-answer
unfolding answer_of
returns-in-Time-clause-answer c =
    let a = c.args in
    rw c.in-Time.is (answers-quiet (state_in a.session a.buffers.now) c.requires (good_quiet a.session) c.silent.ensures)

pub returns-in-Captured-clause-answer : goal.returns-in-Captured-clause-answer
unfolding answer_of
returns-in-Captured-clause-answer c =
    let a = c.args in
    rw c.in-Captured.is (answers-quiet (state_in a.session a.buffers.now) c.requires (good_quiet a.session) c.silent-in-Captured.ensures)

pub returns-in-Buffers-clause-answer : goal.returns-in-Buffers-clause-answer
unfolding answer_of
returns-in-Buffers-clause-answer c =
    let a = c.args in
    let k = c.in-Buffers in
    rw k.is (answers-quiet (state_in a.session a.buffers.now) c.requires (good_quiet (with_lengths a.session k.log k.collect)) c.lend_buffers.ensures)

pub returns-in-AppendTrb-clause-answer : goal.returns-in-AppendTrb-clause-answer
unfolding answer_of
returns-in-AppendTrb-clause-answer c =
    let a = c.args in
    rw c.in-AppendTrb.is (answers-quiet (state_in a.session a.buffers.now) c.requires (append_trb a.session c.in-AppendTrb.t) c.append_trb.ensures)

pub returns-in-AppendResult-clause-answer : goal.returns-in-AppendResult-clause-answer
unfolding answer_of
returns-in-AppendResult-clause-answer c =
    let a = c.args in
    let k = c.in-AppendResult in
    rw k.is (answers-quiet (state_in a.session a.buffers.now) c.requires (append_result a.session (record { status = k.status; length = k.length })) c.append_result.ensures)

pub returns-in_default-clause-answer : goal.returns-in_default-clause-answer
returns-in_default-clause-answer c =
    let a = c.args in
    let d = c.in_default in
    let on_endpoint : OnEndpoint a.call =
    record {
      window = d.not-Window;
      buffers = d.not-Buffers;
      create_in = d.not-CreateIn;
      create_control = d.not-CreateControl;
      append_trb = d.not-AppendTrb;
      append_result = d.not-AppendResult;
      complete_row = d.not-CompleteRow;
      time = d.not-Time;
      captured = d.not-Captured;
    } in
    rw (answer_of-other a.buffers.now.«data».now (state_in a.session a.buffers.now) a.call on_endpoint) c.run_on_endpoint.ensures.answer
