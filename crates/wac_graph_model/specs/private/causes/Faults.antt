-- The errors of writing sections and of validating names, as errors of encoding.
use Rattle.wac_binary.specs.declared.fault.BinaryFault.{BinaryFault}
use Rattle.wac_binary.specs.declared.fault.BinaryFault.TheVariants as fault
use Rattle.wac_names.specs.declared.validation.fault.ValidationError.{ValidationError}
use Rattle.wac_names.specs.declared.validation.fault.ValidationError.TheVariants as validation
use Rattle.wac_graph_model.specs.declared.causes.errors.EncodeError.{EncodeError}
use Rattle.wac_graph_model.specs.declared.causes.errors.EncodeError.TheVariants as error

-- The error of encoding for an error of writing.
abbrev pub encode_error : BinaryFault → EncodeError
encode_error fault.TooLarge = error.TooLarge
encode_error fault.OutOfMemory = error.OutOfMemory

-- The error of encoding for an error of validation.
abbrev pub validation_failure : ValidationError → EncodeError
validation_failure (validation.Fault f) = error.ValidationFailure f
validation_failure validation.OutOfMemory = error.OutOfMemory
