mod Lines
mod Joined
mod Worked
