-- Why a file was not opened, as a person is told.
use Rattle.std.specs.declared.io.ErrorKind.{ErrorKind}
use Rattle.std.specs.declared.io.ErrorKind.TheVariants.{NotFound, PermissionDenied}
use Rattle.files.specs.declared.Unopened.{Unopened}
use Rattle.files.specs.declared.Unopened.TheVariants.{Missing, Forbidden, Unknown}

abbrev pub unopened_of : ErrorKind → Unopened
unopened_of NotFound = Missing
unopened_of PermissionDenied = Forbidden
unopened_of _ = Unknown
