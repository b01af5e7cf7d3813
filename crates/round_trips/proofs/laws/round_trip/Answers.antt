use Rattle.round_trips.proofs.RoundTrip.{round_trip}
use Rattle.round_trips.proofs.laws.round_trip.Goals as goal

pub returns : goal.returns
returns c = round_trip
