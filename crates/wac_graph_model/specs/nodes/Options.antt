-- The default options of encoding.
use Rattle.std.specs.Prelude.{true, None}
use Rattle.wac_graph_model.specs.declared.nodes.options.EncodeOptions.{EncodeOptions}

-- Packages are defined, names are validated, and no processor is named.
abbrev pub default_options : EncodeOptions
default_options = record { define_components = true; validate = true; processor = None }
