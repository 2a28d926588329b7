-- What the private functions of `options` promise: no contract of a public function cites it.
pub mod Options
