-- What the memory of a house means.
use Rattle.calls.specs.Contents.{Contents}
use Rattle.house.specs.Stored.{listings}
use Rattle.house.specs.declared.house.House.{House}

abbrev pub means : House → Contents
means h = record { tables = listings h.moves h.entries.items; seats = h.seats }
