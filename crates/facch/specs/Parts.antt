-- How what was read of a part is told, with the place behind it. Assumes nothing.
use Rattle.std.proofs.Math.Option.{Option}
use Rattle.csn1.specs.Format.{Res, ok, bad, no_refusal}
use Rattle.facch.specs.Message.{Release6Value, Release7Value}
use Rattle.facch.specs.Told.{no_release6, release6_of, no_release7, release7_of}
use Rattle.facch.specs.declared.additions.Release6At.{Release6At}
use Rattle.facch.specs.declared.additions.Release7At.{Release7At}

abbrev pub release6_at_of : Res (Option Release6Value) → Release6At
release6_at_of (bad r) = record { refusal = r; release = no_release6; at = 0 }
release6_at_of (ok v q) = record { refusal = no_refusal; release = release6_of v; at = q }

abbrev pub release7_at_of : Res (Option Release7Value) → Release7At
release7_at_of (bad r) = record { refusal = r; release = no_release7; at = 0 }
release7_at_of (ok v q) = record { refusal = no_refusal; release = release7_of v; at = q }
