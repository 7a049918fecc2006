-- Each call has one letter less left.
use Rattle.shape_text.proofs.+event_data_normal.Given as goal

abbrev pub decreases-event_data : goal.decreases-event_data
decreases-event_data l = l.left

abbrev pub decreases-normal : goal.decreases-normal
decreases-normal l = l.left
