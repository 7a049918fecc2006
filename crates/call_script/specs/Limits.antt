-- The limits of a call script. `script_limits` in src/lib.rt proves that the code's constants are these. Assumes nothing.
use Rattle.std.specs.Prelude.{ℕ}
use Rattle.trb.specs.Limits.{min_row_log}
use Rattle.call_script.specs.declared.ScriptLimits.{ScriptLimits}

-- bytes of guest memory, both regions together
abbrev pub max_window : ℕ
max_window = 0x140000

-- bytes of the lent log: as many as a row asks for
abbrev pub max_lent_log : ℕ
max_lent_log = min_row_log

-- bytes of the lent collect buffer
abbrev pub max_lent_collect : ℕ
max_lent_collect = 0x10000

-- bytes of the device's data: as many as guest memory can have
abbrev pub max_script_data : ℕ
max_script_data = max_window

-- EP and SLOT, a device address
abbrev pub max_byte : ℕ
max_byte = 0xff

-- a bus number
abbrev pub max_bus : ℕ
max_bus = 0xffff

abbrev pub script_limits : ScriptLimits
script_limits = record { window = max_window; log = max_lent_log; collect = max_lent_collect; script_data = max_script_data }
