-- What captures say of a script's calls. Assumes nothing.
use Rattle.call_script.specs.declared.Call.{Call}
use Rattle.call_script.specs.declared.Call.TheVariants.{Window, Buffers, CreateIn, CreateControl, Submit, Complete, Cancel, Hold, MakeUpIn, MakeUpControl, AppendTrb, AppendResult, CompleteRow, Time, Captured}
use Rattle.capture_record.specs.declared.InTransferType.TheVariants.{Bulk}
use Rattle.captured_calls.specs.declared.Setting.{Setting}

-- docs/CALLS.md: bus 1, device 1, bulk and time 0, until a script says otherwise
abbrev pub first_setting : Setting
first_setting = record {
  stamp = record { device = record { bus_number = 1; device_address = 1 }; time = record { seconds = 0; microseconds = 0 } };
  transfer_type = Bulk;
}

-- 02, R-2: times, bus, device address and the transfer type on IN are the caller's: `t` and `m` set them for the calls behind, no other line does
unfoldable pub setting_after : Setting → Call → Setting
setting_after s (Window window) = s
setting_after s (Buffers log collect) = s
setting_after s (CreateIn e i mode) = s
setting_after s (CreateControl e i release) = s
setting_after s (Submit t) = s
setting_after s (Complete status n) = s
setting_after s Cancel = s
setting_after s (Hold t) = s
setting_after s (MakeUpIn state) = s
setting_after s (MakeUpControl phase state direction n) = s
setting_after s (AppendTrb t) = s
setting_after s (AppendResult status n) = s
setting_after s (CompleteRow n) = s
setting_after s (Time time) = record { stamp = record { device = s.stamp.device; time = time }; transfer_type = s.transfer_type }
setting_after s (Captured device transfer_type) = record { stamp = record { device = device; time = s.stamp.time }; transfer_type = transfer_type }
