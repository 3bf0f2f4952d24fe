mod Cycling
mod Following
mod Lines
mod Passing
mod Plugging
mod Taking
mod Using
mod Weakening
