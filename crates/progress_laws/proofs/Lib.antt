mod Enabled
mod Counted
