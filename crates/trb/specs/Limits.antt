-- The limits of document 01, each under one name. `limits` in src/lib.rt proves that the code's constants are these.
-- Assumes nothing.
use Rattle.std.specs.Prelude.{ℕ, ◌*◌}
use Rattle.trb.specs.declared.LimitTable.{LimitTable}

-- 01, Submission, with 02, R-5: at most 512 TRBs held
abbrev pub max_held : ℕ
max_held = 512

-- 01, Submission: the length of a DataStage or Normal TRB at most 131,071
abbrev pub max_transfer_length : ℕ
max_transfer_length = 131071

-- 01, Submission: collected count at most 65,535; the collect buffer at least as long
abbrev pub max_collected : ℕ
max_collected = 65535

-- 01, Completion, with 02, R-5: the device's data at most 67,108,352 bytes, as many as the TRBs held can take
abbrev pub max_data : ℕ
max_data = max_held * max_transfer_length

-- 01, Creation: the endpoint id 1 to 31
abbrev pub max_endpoint_id : ℕ
max_endpoint_id = 31

-- 01, The log: records of 32 bytes
abbrev pub record_length : ℕ
record_length = 32

-- 01, The log, with 02, R-5: a call writes at most 1,024 records, two for each TRB held
abbrev pub max_records : ℕ
max_records = 2 * max_held

-- 01, Submission, with 02, R-5: the log at least 32,768 bytes, room for that many records
abbrev pub min_log : ℕ
min_log = record_length * max_records

-- 02, R-7: a row of at most 512 TRBs, as many as a block holds
abbrev pub max_row : ℕ
max_row = max_held

-- 02, R-7: a row may write 1,536 records, a request for each TD and two for each TRB
abbrev pub max_row_records : ℕ
max_row_records = 3 * max_row

-- 02, R-7: a log of 49,152 bytes, room for that many records
abbrev pub min_row_log : ℕ
min_row_log = record_length * max_row_records

-- 01, Examples: a log longer than 65,536 bytes is not printed
abbrev pub max_printed_log : ℕ
max_printed_log = 65536

abbrev pub limit_table : LimitTable
limit_table = record {
  held = max_held;
  transfer_length = max_transfer_length;
  collected = max_collected;
  «data» = max_data;
  endpoint_id = max_endpoint_id;
  record_length = record_length;
  records = max_records;
  log = min_log;
  row = max_row;
  row_records = max_row_records;
  row_log = min_row_log;
  printed_log = max_printed_log;
}
