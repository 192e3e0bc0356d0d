use Rattle.dc_delay.proofs.Listing.{listed, timed_entry, other_entry}
use Rattle.dc_delay.proofs.laws.entries_of_the_list.Goals as goal

pub returns : goal.returns
returns c = record { whole = listed; timed = timed_entry; other = other_entry }
