-- The small runs, by computation.
use Rattle.std.proofs.Common.{refl}
use lib.Utf8.{encode}
use Rattle.std.specs.Str.{chars}
use Rattle.model.specs.Pairs.{MetAndNotMet}
use Rattle.model.specs.Readings.{Readings}

pub met_and_not_met : MetAndNotMet
unfolding chars encode
met_and_not_met = (((refl, refl), ((refl, refl), ((refl, refl), ((refl, refl), ((refl, refl), ((refl, refl), ((refl, refl), ((refl, refl), ((refl, refl), tt))))))))), ((refl, refl), (refl, refl)), (refl, refl), (refl, refl), (refl, refl))

pub readings : Readings
unfolding chars encode
readings = (
  ((refl, refl), ((refl, refl), ((refl, refl), ((refl, refl), ((refl, refl), tt))))),
  ((refl, refl), ((refl, refl), ((refl, refl), tt))),
  ((refl, refl), ((refl, refl), ((refl, refl), ((refl, refl), ((refl, refl), tt))))),
  ((refl, refl), ((refl, refl), tt)),
  ((refl, refl), ((refl, refl), ((refl, refl), ((refl, refl), ((refl, refl), ((refl, refl), ((refl, refl), ((refl, refl), ((refl, refl), tt))))))))),
  ((refl, refl), tt),
  (record { before_them = tt; one = refl; other = refl; behind_them = tt }, refl),
)
