-- The listed captures, computed. Assumes nothing.
use Rattle.std.proofs.Common.{refl}
use Rattle.receiver.specs.Count.{all_sets}
use Rattle.receiver.specs.Halving.{sought_in, halving, rises}
use Rattle.receiver.specs.Model.{late, spares, ran_out_of, taken_of, kept_of, swept_slots, expired_of, dropped_of, all_low, setup_right, started_of}
use Rattle.receiver.specs.Step.{all_told, all_after, refusal_of, step_of}
use Rattle.layout.specs.Octets.{tabulate}
use Rattle.text.specs.Digits.{numeral}
use Rattle.capture.specs.Promises.{TheWorkedExample, EmptyInputPrintsTheHeaderAlone}
use Rattle.capture.specs.Capture.{be_at, parts_from, parts_of}
use Rattle.capture.specs.Replay.{event_by, inserted, sorted, keys_of, start_in, accepts, entries_text, field_text, line_text, text_from, replay_of}

pub empty_input_prints_the_header_alone : EmptyInputPrintsTheHeaderAlone
unfolding replay_of text_from parts_of parts_from
empty_input_prints_the_header_alone = refl

pub the_worked_example : TheWorkedExample
unfolding replay_of text_from parts_of parts_from be_at event_by inserted sorted keys_of start_in accepts entries_text field_text line_text tabulate numeral all_sets
    all_low rises setup_right started_of late sought_in halving spares ran_out_of taken_of kept_of swept_slots expired_of dropped_of all_told all_after refusal_of step_of
the_worked_example = refl
