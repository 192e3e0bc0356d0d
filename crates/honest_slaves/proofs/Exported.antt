-- What the crates above may cite of these proofs.

-- What datagrams leave of a station address.
pub use Rattle.honest_slaves.proofs.Addresses.{stands_after}
-- What frames leave of slaves by position.
pub use Rattle.honest_slaves.proofs.Frames.{stands_at, mindful_at, found_standing, Had, had_before, low_where, same_many, step_standing}
pub use Rattle.honest_slaves.proofs.Frames.{found_named, step_naming}
-- Who answers a datagram, and what its counter becomes.
pub use Rattle.honest_slaves.proofs.Answering.{all_answer, alone, read_there, written_there, refused_there, naming_counts}
-- What a slave of a kind refuses.
pub use Rattle.honest_slaves.proofs.ByKind.{IsFor, time_for_clocks, latch_for_measuring, ports_for_measuring, unit_for_measuring}
pub use Rattle.honest_slaves.proofs.ByKind.{offset_for_clocks, delay_for_clocks, clock_word, measuring_word}
-- How many slaves answer, counted over slaves and over what a master was told.
pub use Rattle.honest_slaves.proofs.Numbers.{words_many, flagged}
-- Every frame of a master gives no slave a station address but its own.
pub use Rattle.honest_slaves.proofs.Mindful.{naming, names, mindful_step}
-- What comes back of each step's frame.
pub use Rattle.honest_slaves.proofs.Replies.{later_counts, count_counts, judged_none}
-- What comes back of Identify.
pub use Rattle.honest_slaves.proofs.Identifying.{reads_of, identify_tells, identify_counts}
-- How far a script has come over slaves that answer as they are.
pub use Rattle.honest_slaves.proofs.Progressing.{IsLate, IsHonest}
-- The slaves of a file before the first frame.
pub use Rattle.honest_slaves.proofs.Beginning.{begins}
-- The judgement of the slaves of a legal file.
pub use Rattle.honest_slaves.proofs.Judged.{judged_ok}
-- What comes back of a segment's frame, and what is left of its slaves.
pub use Rattle.honest_slaves.proofs.Returning.{CameBack, came_back, order_stays}
-- One exchange more.
pub use Rattle.honest_slaves.proofs.Turning.{sent_by}
-- The exchange that a script wants next, over slaves that answer as they are.
pub use Rattle.honest_slaves.proofs.Turns.{honest_turn}
-- Whole calls, and the run of a file.
pub use Rattle.honest_slaves.proofs.Runs.{commissioned_honest, settled_honest, armed_honest, ran_honest}
-- The positions of the slaves that measure, and of the clocks, as a master is told them and as the file has them.
pub use Rattle.honest_slaves.proofs.Positions.{row_has, told_measuring, told_clocks}
-- What is kept behind a commissioning that ended with Ok.
pub use Rattle.honest_slaves.proofs.Delays.{commissioned_late, delays_there, delays_whole, judged_told}
-- The run of a file keeps the slaves to the signals of the file.
pub use Rattle.honest_slaves.proofs.SignalRuns.{whole_keeps}
